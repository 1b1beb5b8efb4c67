use Rattle.std.proofs.Common.{length}
use Rattle.chip_cases.proofs.update.expects_refusal.Given as goal

abbrev pub decreases-loop-place : goal.decreases-loop-place
decreases-loop-place l = length l.place.rest.now
