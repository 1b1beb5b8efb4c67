use Rattle.std.proofs.Common.{◌≡◌, length, map}
use Rattle.std.specs.List.{flat_map}
use Rattle.chip_lang.specs.Operand.{operand_of}
use Rattle.chip_lang.specs.Uses.{names_in_operand}
use Rattle.chip_lang.proofs.line_names.name_in_operands.Given as goal

abbrev pub invariant-loop-operand : goal.invariant-loop-operand
invariant-loop-operand l =
    flat_map names_in_operand (map operand_of l.rest) ≡ flat_map names_in_operand (map operand_of l.operands)

abbrev pub decreases-loop-operand : goal.decreases-loop-operand
decreases-loop-operand l = length l.rest
