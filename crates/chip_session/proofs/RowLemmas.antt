-- Whether a row has a lit pixel, and its number in two digits.
use Rattle.std.proofs.Common.{◌≡◌, ℕ, zero, suc, zero-add, inl, inr, ◌+◌, ◌/◌, ◌%◌, ◌<◌, ◌||◌, Bool, true, false, not, List, [], ◌∷◌, length, refl, sym, ap, ◌∙◌, arith}
use Rattle.std.specs.Prelude.{◌↔◌, ◌==◌}
use Rattle.std.specs.List.{list_any, range_with_len}
use Rattle.std.proofs.Math.ListN.{get_or}
use Rattle.std.proofs.lemmas.Bool.{cases_lt, eqb-true, eqb-false, le-ltb, lt-ltb}
use Rattle.std.proofs.lemmas.Fmt.{decimal_digit}
use Rattle.std.proofs.lemmas.List.Folds.{list_any_none}
use Rattle.std.proofs.lemmas.List.FromFn.{get_or-range_with_len, length-range_with_len}
use Rattle.itoa.proofs.Decimal.{decimal_two}
use Rattle.chip_machine.specs.Points.{Points, is_lit}
use Rattle.chip_session.specs.MachineAnswers.{has_lit, two_digits}

or_false : (a b : Bool) → (a || b) ≡ false → (a ≡ false) × (b ≡ false)
or_false true b e = absurd (cc)
or_false false b e = (refl, e)

-- if no item passes the test, the item at a place doesn't pass
none_passes : (p : ℕ → Bool) (xs : List ℕ) → list_any p xs ≡ false → (i d : ℕ) → i < length xs → p (get_or xs i d) ≡ false
none_passes p [] e i d lt = absurd (omega arith)
none_passes p (x ∷ xs) e zero d lt = (or_false (p x) (list_any p xs) e).0
none_passes p (x ∷ xs) e (suc i) d lt = none_passes p xs (or_false (p x) (list_any p xs) e).1 i d (omega arith)

pub dark_row : (lit : Points) (row bits : ℕ) → (bits ≡ 0) ↔ ((column : ℕ) → column < 128 → is_lit lit column row ≡ false) → not (bits == 0) ≡ has_lit lit row
unfolding has_lit
dark_row lit row bits dark = by_bits (bits == 0) (list_any here (range_with_len 0 128)) refl refl
  where
    here : ℕ → Bool
    here column = is_lit lit column row

    at : (column d : ℕ) → column < 128 → get_or (range_with_len 0 128) column d ≡ column
    at column d lt = get_or-range_with_len 0 128 column d lt ∙ zero-add column

    by_bits : (zero_bits any : Bool) → (bits == 0) ≡ zero_bits → list_any here (range_with_len 0 128) ≡ any → not zero_bits ≡ any
    by_bits true any e f =
        let all : (column : ℕ) → column < 128 → is_lit lit column row ≡ false = dark.0 (eqb-true bits 0 e) in
        sym (list_any_none here (range_with_len 0 128)
        (λ k d lt. let below : k < 128 = rw (length-range_with_len 0 128) at lt in
        ap here (at k d below) ∙ all k below)) ∙ f
    by_bits false true e f = refl
    by_bits false false e f =
        let none : (column : ℕ) → column < 128 → is_lit lit column row ≡ false =
        λ column lt. ap here (sym (at column 0 lt)) ∙ none_passes here (range_with_len 0 128) f column 0 (rw (length-range_with_len 0 128) lt) in
        absurd (eqb-false bits 0 e (dark.1 none))

-- a number below 100 in two digits, by arithmetic
pub two_digits_are : (n : ℕ) → n < 100 → two_digits n ≡ (48 + n / 10) ∷ (48 + n % 10) ∷ []
two_digits_are n lt =
    elim (cases_lt n 10) [
      | inl one ↦
          let small : n / 10 ≡ 0 = omega arith in
          let same : n % 10 ≡ n = omega arith in
          rw (lt-ltb n 10 one, decimal_digit n one, small, same) refl
      | inr two ↦ rw (le-ltb n 10 two, decimal_two n two lt) refl
    ]
