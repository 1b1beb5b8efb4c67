-- The digits of a form's words: its own, and the word's where an operand takes them.
use Rattle.std.proofs.Common.{◌≡◌, ℕ, ◌==◌, Bool, true, false, ◌||◌, if◌then◌else◌, List, map, Some, option_map, refl, sym, ap, ◌∙◌}
use Rattle.std.specs.List.{list_any, find, slice_get, position_or_len}
use Rattle.std.proofs.lemmas.Bool.{and_parts, eqb-true}
use Rattle.std.proofs.lemmas.List.Folds.{find_at}
use Rattle.std.proofs.lemmas.Option.{same_Some, slice_get-map}
use Rattle.chip_lang.specs.declared.form.Pattern.{Pattern}
use Rattle.chip_lang.specs.Table.{Row}
use Rattle.chip_lang.specs.inner.ByDigits.{digit, takes_top, takes_x, takes_y, takes_n, has_digit}
use Rattle.chip_lang.proofs.Digits.{HasDigits}

-- the form's own digit, or a word's where an operand takes it
abbrev pub own_digit : (Pattern → Bool) → (bits : ℕ) → Row → ℕ → ℕ
own_digit takes bits r w = if list_any takes r.patterns then digit bits w else digit bits r.base

own_step : (a : Bool) (d base : ℕ) → (a || d == base) ≡ true → d ≡ (if a then d else base)
own_step true d base h = refl
own_step false d base h = eqb-true d base h

is_own : (takes : Pattern → Bool) (bits : ℕ) (r : Row) (w : ℕ) → has_digit takes bits r (digit bits w) ≡ true → digit bits w ≡ own_digit takes bits r w
is_own takes bits r w h = own_step (list_any takes r.patterns) (digit bits w) (digit bits r.base) h

-- each digit of a word is a form's own
pub record IsOwn (r : Row) (w : ℕ) : Type 0 where
  pub top : digit 12 w ≡ own_digit takes_top 12 r w
  pub x : digit 8 w ≡ own_digit takes_x 8 r w
  pub y : digit 4 w ≡ own_digit takes_y 4 r w
  pub n : digit 0 w ≡ own_digit takes_n 0 r w

pub own_digits : (r : Row) (w : ℕ) → HasDigits r w → IsOwn r w
own_digits r w digits =
    let d = and_parts _ _ digits in
    let d1 = and_parts _ _ d.1 in
    let d2 = and_parts _ _ d1.1 in
    record { top = is_own takes_top 12 r w d.0; x = is_own takes_x 8 r w d1.0; y = is_own takes_y 4 r w d2.0; n = is_own takes_n 0 r w d2.1 }

-- ---- the row that is found in a table

-- two functions that agree on all rows of a table agree on the row that is found
pub found_same : {R A : Type 0} (test : R → Bool) (f g : R → A) (rows : List R) (r : R) → map f rows ≡ map g rows → find test rows ≡ Some r → f r ≡ g r
found_same {R = R} {A = A} test f g rows r e h =
    let k = position_or_len test rows in
    let at : slice_get rows k ≡ Some r = sym (find_at test rows) ∙ h in
    let read : (f : R → A) → slice_get (map f rows) k ≡ Some (f r) = λ f. slice_get-map f rows k ∙ ap (option_map f) at in
    same_Some (f r) (g r) (sym (read f) ∙ ap (λ rows. slice_get rows k) e ∙ read g)
