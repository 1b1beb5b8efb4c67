use Rattle.std.proofs.Common.{ℕ, ◌-◌, ◌<◌, ◌≤◌}
use Rattle.chip_facts.specs.Sets.{Holds}
use Rattle.chip_facts.proofs.byte_set.bound.Given as goal

abbrev pub invariant-loop-b : goal.invariant-loop-b
invariant-loop-b l = (b : ℕ) → b < l.b → Holds l.set b → b ≤ l.most

abbrev pub decreases-loop-b : goal.decreases-loop-b
decreases-loop-b l = 256 - l.b
