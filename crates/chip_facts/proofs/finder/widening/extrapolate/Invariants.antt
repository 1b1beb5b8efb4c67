use Rattle.std.proofs.Common.{◌-◌}
use Rattle.chip_facts.proofs.finder.widening.extrapolate.Given as goal

abbrev pub decreases-loop-byte : goal.decreases-loop-byte
decreases-loop-byte l = 256 - l.byte
