use Rattle.std.proofs.Common.{ℕ, ◌-◌, ◌<◌, ◌+◌, ◌*◌, ◌%◌}
use Rattle.chip_facts.specs.Sets.{Holds}
use Rattle.chip_facts.proofs.index_set.digits.Given as goal

abbrev pub invariant-loop-b : goal.invariant-loop-b
invariant-loop-b l = (b : ℕ) → b < l.b → Holds l.values b → Holds l.set (l.first + l.size * (b % 16))

abbrev pub decreases-loop-b : goal.decreases-loop-b
decreases-loop-b l = 256 - l.b
