use Rattle.std.proofs.Common.{◌≡◌, ◌∙◌, ◌++◌, ap}
use Rattle.chip_lang.specs.Show.{show_of}
use Rattle.chip_lang.proofs.ShownText.{shown_is_text}
use Rattle.chip_lang.proofs.source_text.show.Goals as goal

pub unreachable-requires : goal.unreachable-requires
unreachable-requires c =
    let whole : c.push_shown.new.text.items ≡ show_of c.args.word = c.in_ok-push_shown.ensures.text ∙ ap (λ before. before ++ show_of c.args.word) c.in_ok-bytes.ensures.items in
    let ok = c.from_utf8.ensures.succeeds (rw whole (shown_is_text c.args.word)) in
    let never = rw c.in_default.is at ok in
    cc
