use Rattle.std.proofs.Common.{refl}
use Rattle.chip_check.proofs.UnopenedHelp.{as_line}
use Rattle.chip_check.proofs.check.unopened_report.Goals as goal

pub returns : goal.returns
returns c =
    let found = c.in_ok-finding.ensures in
    rw (c.in_ok-push_unquoted.ensures, c.new-text.ensures.items, c.unopened_line-number.ensures, found.span, found.code, found.sentence, as_line _ _ _ found.help) refl
