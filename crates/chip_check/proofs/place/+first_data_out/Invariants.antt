use Rattle.std.proofs.Common.{length}
use Rattle.chip_check.proofs.place.+first_data_out.Given as goal

abbrev pub decreases-first_data_out : goal.decreases-first_data_out
decreases-first_data_out l = length l.values.now
