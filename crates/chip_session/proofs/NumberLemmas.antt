-- The value of the digits read so far.
use Rattle.std.proofs.Common.{◌≡◌, ℕ, ◌+◌, ◌*◌, ◌^◌, ◌<◌, ◌≤◌, true, List, [], ◌∷◌, length, take, get_or, ◌&&◌, ap, ◌∙◌, arith}
use Rattle.std.specs.Char.{digit_value, is_digit}
use Rattle.std.specs.List.{list_all}
use Rattle.std.specs.Str.Parse.{digits_value, AllDigits}
use Rattle.std.proofs.lemmas.Bool.{and_parts, ltb-true, lt-ltb}
use Rattle.std.proofs.lemmas.List.{length-take-le}
use Rattle.std.proofs.lemmas.List.Folds.{list_all_more}
use Rattle.std.proofs.Math.Nat.{pow-le-pow_right}
use Rattle.std.proofs.lemmas.Int.Digits.{digits_value-lt, digits_value_more}

-- if each byte passes the test, all bytes are digits
pub all_digits : (base : ℕ) (ds : List ℕ) → list_all (λ byte. is_digit byte base) ds ≡ true → AllDigits base ds
all_digits base [] h = tt
all_digits base (d ∷ ds) h =
    let parts = and_parts (is_digit d base) (list_all (λ byte. is_digit byte base) ds) h in
    (ltb-true (digit_value d) base parts.0, all_digits base ds parts.1)

-- one more byte that is a digit
pub more_digits : (base : ℕ) (ds : List ℕ) (i : ℕ) → list_all (λ byte. is_digit byte base) (take i ds) ≡ true → i < length ds → digit_value (get_or ds i 0) < base → list_all (λ byte. is_digit byte base) (take (i + 1) ds) ≡ true
more_digits base ds i h within below =
    list_all_more (λ byte. is_digit byte base) ds i 0 within ∙ ap (λ b. b && is_digit (get_or ds i 0) base) h ∙ lt-ltb (digit_value (get_or ds i 0)) base below

pub value_fits : (base : ℕ) (ds : List ℕ) (i : ℕ) → 1 ≤ base → list_all (λ byte. is_digit byte base) (take (i + 1) ds) ≡ true → base ^ length ds ≤ 2 ^ 32 → i < length ds →
    digits_value base (take i ds) * base + digit_value (get_or ds i 0) < 2 ^ 32
value_fits base ds i some h room within =
    let size : length (take (i + 1) ds) ≤ length ds = omega (arith, length-take-le (i + 1) ds (omega (arith, within))) in
    omega (arith, room, pow-le-pow_right {n = base} some size, digits_value-lt base (take (i + 1) ds) (all_digits base (take (i + 1) ds) h), digits_value_more base ds i within)
