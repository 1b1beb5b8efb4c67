use Rattle.std.proofs.Common.{length}
use Rattle.chip_check.proofs.place.+operand_span.Given as goal

abbrev pub decreases-operand_span : goal.decreases-operand_span
decreases-operand_span l = length l.tokens.now
