use Rattle.std.proofs.Common.{ℕ, ◌<◌, bit_and}
use Rattle.chip_facts.specs.Sets.{Holds}
use Rattle.chip_facts.proofs.byte_set.masked.Given as goal

abbrev pub invariant-loop-b : goal.invariant-loop-b
invariant-loop-b l = (b : ℕ) → b < l.b → Holds l.set (bit_and b l.mask)
