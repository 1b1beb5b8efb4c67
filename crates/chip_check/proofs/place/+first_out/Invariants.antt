use Rattle.std.proofs.Common.{length}
use Rattle.chip_check.proofs.place.+first_out.Given as goal

abbrev pub decreases-first_out : goal.decreases-first_out
decreases-first_out l = length l.patterns.now
