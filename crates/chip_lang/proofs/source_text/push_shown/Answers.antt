use Rattle.std.proofs.Common.{◌∙◌, ap, append_assoc, append-nil, arith}
use Rattle.chip_lang.specs.Show.{form_text}
use Rattle.chip_lang.specs.Table.{fields_in}
use Rattle.chip_lang.specs.inner.ByDigits.{form_with}
use Rattle.chip_lang.proofs.ShownForm.{text_by_digits}
use Rattle.chip_lang.proofs.source_text.push_shown.Goals as goal

pub returns-in_ok-push_with_registers-in-13 : goal.returns-in_ok-push_with_registers-in-13
unfolding form_with
returns-in_ok-push_with_registers-in-13 c =
    let w = c.args.word in
    let shown = text_by_digits w (omega arith) ∙ ap (λ top. form_text (form_with top (fields_in w)) w) c.in-13.is in
    record { text = rw (shown, append-nil) (rw (c.in_ok-push_with_registers-in-13.ensures, append_assoc) at c.push_small_decimal.ensures) }
