use Rattle.std.proofs.Common.{length}
use Rattle.chip_cases.proofs.update.updated_text.Given as goal

abbrev pub decreases-loop-left : goal.decreases-loop-left
decreases-loop-left l = length l.place.rest.now
