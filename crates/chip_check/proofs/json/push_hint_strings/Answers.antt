use Rattle.std.proofs.Common.{◌∙◌, ◌++◌, ap, append_assoc, codes}
use Rattle.chip_check.specs.Json.{further_hint, hint_string}
use Rattle.chip_check.proofs.Pieces.{one_more}
use Rattle.chip_check.proofs.json.push_hint_strings.Goals as goal

pub loop-hint-preserved : goal.loop-hint-preserved
loop-hint-preserved c =
    one_more further_hint c.push_hint_string.new.text.items c.loop-hint.text.items c.in-Some.others.now c.loop-hint.hint-index _ _
    c.loop-hint-test.true c.loop-hint.invariant
    (c.in_ok-push_hint_string-2.ensures ∙ ap (λ text. text ++ hint_string c.hint-item.result) c.in_ok-extend_from_slice.ensures.items
    ∙ append_assoc c.loop-hint.text.items (codes ",") (hint_string c.hint-item.result)
    ∙ ap (λ hint. c.loop-hint.text.items ++ further_hint hint) c.hint-item.is)
