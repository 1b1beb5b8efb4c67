use Rattle.std.proofs.Common.{◌≡◌, drop}
use Rattle.chip_lang.specs.SeenLine.{seen_line}
use Rattle.chip_lang.specs.Uses.{names_used}
use Rattle.chip_lang.proofs.line_names.uses.Given as goal

abbrev pub invariant-loop : goal.invariant-loop
invariant-loop l = l.names ≡ drop l.counter (names_used (seen_line l.line))
