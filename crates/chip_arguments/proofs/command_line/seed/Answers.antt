use Rattle.std.proofs.Common.{◌∙◌, sym}
use Rattle.chip_arguments.proofs.NumberLemmas.{not_a_number}
use Rattle.chip_arguments.proofs.command_line.seed.Goals as goal

pub returns-else-is_decimal : goal.returns-else-is_decimal
returns-else-is_decimal c =
    rw c.in_ok-text.was (not_a_number 64 c.in_ok-text.text.now (sym c.is_decimal.ensures ∙ c.if-is_decimal.false))
