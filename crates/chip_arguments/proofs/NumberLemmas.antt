-- Texts that are numbers contain only decimal digits.
use Rattle.std.proofs.Common.{◌≡◌, ◌∙◌, ◌≤◌, ℕ, true, false, List, [], ◌∷◌, refl, sym, arith}
use Rattle.std.specs.Char.{is_ascii_digit}
use Rattle.std.specs.List.{list_all}
use Rattle.std.specs.Str.Parse.{AllDigits}
use Rattle.std.proofs.lemmas.Str.Parse.{digit_from_value}
use Rattle.chip_arguments.specs.CommandArguments.{IsNumber}

is_digit : (c : ℕ) → 48 ≤ c → c ≤ 57 → is_ascii_digit c ≡ true
is_digit c low high = grind arith

digits_are_decimal : (text : List ℕ) → AllDigits 10 text → list_all is_ascii_digit text ≡ true
digits_are_decimal [] h = refl
digits_are_decimal (c ∷ cs) h =
    let range = digit_from_value c h.0 in
    rw (is_digit c range.0 range.1) (digits_are_decimal cs h.1)

-- a text with any other byte isn't a number
pub not_a_number : (bits : ℕ) (text : List ℕ) → list_all is_ascii_digit text ≡ false → IsNumber bits text → ⊥
not_a_number bits text other number =
    let contradiction : true ≡ false = sym (digits_are_decimal text number.0.1) ∙ other in
    cc
