use Rattle.std.proofs.Common.{◌≡◌, length, map}
use Rattle.std.specs.Option.{option_copied}
use Rattle.chip_lang.specs.Operand.{operand_of}
use Rattle.chip_lang.specs.Line.{pieces_in, all_some, operand_of_tokens, operands_of}
use Rattle.chip_lang.proofs.Pieces.{after}
use Rattle.chip_lang.proofs.operands.operands_of.Given as goal

abbrev pub invariant-loop-rest : goal.invariant-loop-rest
invariant-loop-rest l = after operand_of l.operands.items (all_some (map operand_of_tokens (pieces_in (option_copied l.rest)))) ≡ operands_of l.tokens

abbrev pub decreases-loop-rest : goal.decreases-loop-rest
decreases-loop-rest l = length (pieces_in (option_copied l.rest))
