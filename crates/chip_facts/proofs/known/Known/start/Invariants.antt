use Rattle.std.proofs.Common.{ℕ, ◌<◌, ◌*◌}
use Rattle.chip_facts.specs.Sets.{Holds}
use Rattle.chip_facts.proofs.known.Known.start.Given as goal

abbrev pub invariant-loop-x : goal.invariant-loop-x
invariant-loop-x l = (x : ℕ) → x < l.x → Holds l.registers (256 * x)
