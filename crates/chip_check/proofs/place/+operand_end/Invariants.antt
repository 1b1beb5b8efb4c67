use Rattle.std.proofs.Common.{length}
use Rattle.chip_check.proofs.place.+operand_end.Given as goal

abbrev pub decreases-operand_end : goal.decreases-operand_end
decreases-operand_end l = length l.tokens.now
