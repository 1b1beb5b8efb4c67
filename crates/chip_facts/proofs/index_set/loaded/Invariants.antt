use Rattle.std.proofs.Common.{ℕ, ◌-◌, ◌<◌, ◌+◌, ◌*◌}
use Rattle.chip_facts.specs.Sets.{Holds}
use Rattle.chip_facts.proofs.index_set.loaded.Given as goal

abbrev pub invariant-loop-at : goal.invariant-loop-at
invariant-loop-at l = (i : ℕ) → i < l.at → Holds l.index i → (b : ℕ) → i + l.offset < 4104 → b < 256 → Holds l.memory (256 * (i + l.offset) + b) → Holds l.set b

abbrev pub decreases-loop-at : goal.decreases-loop-at
decreases-loop-at l = 4097 - l.at
