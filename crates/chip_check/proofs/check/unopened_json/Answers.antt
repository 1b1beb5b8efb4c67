use Rattle.std.proofs.Common.{refl}
use Rattle.chip_check.proofs.UnopenedHelp.{as_string}
use Rattle.chip_check.proofs.check.unopened_json.Goals as goal

pub returns : goal.returns
returns c =
    let found = c.in_ok-finding.ensures in
    rw (c.in_ok-push_object.ensures, c.new-text.ensures.items, c.unopened_line.ensures, found.span, found.code, found.sentence, as_string _ _ found.help) refl
