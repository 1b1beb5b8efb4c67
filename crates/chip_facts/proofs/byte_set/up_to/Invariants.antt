use Rattle.std.proofs.Common.{ℕ, ◌<◌}
use Rattle.chip_facts.specs.Sets.{Holds}
use Rattle.chip_facts.proofs.byte_set.up_to.Given as goal

abbrev pub invariant-loop-b : goal.invariant-loop-b
invariant-loop-b l = (b : ℕ) → b < l.b → Holds l.set b
