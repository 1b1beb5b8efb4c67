use Rattle.std.proofs.Common.{length}
use Rattle.chip_analysis.proofs.proving.Prover.+answer.Given as goal

abbrev pub decreases-answer : goal.decreases-answer
decreases-answer g l = length l.left.heads.items
