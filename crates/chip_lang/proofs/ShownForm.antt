-- The form in which a word is shown is the form that has its digits.
use Rattle.std.proofs.Common.{◌≡◌, ℕ, ◌<◌, ◌/◌, is_some, Option, Some, None, refl, ap}
use Rattle.std.specs.Prelude.{option_map}
use Rattle.chip_lang.specs.Table.{Entry, fields_in}
use Rattle.chip_lang.specs.Decoding.{entry_of, decode_of}
use Rattle.chip_lang.specs.Show.{form_shown, form_text, show_of}
use Rattle.chip_lang.specs.inner.ByDigits.{form_with}
use Rattle.chip_lang.proofs.Decoding.{form_by_digits}

-- the text of a word by its digits
pub text_by_digits : (w : ℕ) → w < 65536 → show_of w ≡ form_text (form_with (w / 4096) (fields_in w)) w
unfolding show_of
text_by_digits w h = ap (λ r. form_text r w) (form_by_digits w h)

both_made : {A B : Type 0} (f : Entry → A) (g : Entry → B) (o : Option Entry) → is_some (option_map f o) ≡ is_some (option_map g o)
both_made f g None = refl
both_made f g (Some e) = refl

pub shown_where_decoded : (w : ℕ) → is_some (form_shown w) ≡ is_some (decode_of w)
unfolding decode_of
shown_where_decoded w = both_made _ _ (entry_of w)
