-- The digits of numbers, computed by arithmetic.
use Rattle.std.proofs.Common.{◌≡◌, ℕ, zero, suc, ◌+◌, ◌*◌, ◌/◌, ◌%◌, ◌<◌, ◌≤◌, ◌==◌, ◌&&◌, Bool, true, cond, inl, inr, List, ◌∷◌, [], ◌++◌, length, take, drop, slice_set, ap, Ok, Err, Result, OnOk, is_ok, refl, get_or, slice_index, arith}
use Rattle.std.specs.Fmt.{decimal}
use Rattle.std.specs.Prelude.{nat_lt, if◌then◌else◌}
use Rattle.itoa.proofs.Decimal.{decimal_pair, decimal_two}
use Rattle.std.proofs.lemmas.Fmt.{decimal_digit}
use Rattle.std.proofs.lemmas.Bool.{and_parts, cases_lt, eqb-true}
use Rattle.std.proofs.lemmas.List.{append_assoc, append-nil, drop_all, drop_more, take_all, take_more}
use Rattle.hex.specs.Hex.{encode_with, lower_digits}
use Rattle.hex.proofs.Pairs.{take-two_writes}
use Rattle.chip_lang.specs.Show.{hex_digit, two_hex_digits}
use Rattle.chip_trace.specs.Digits.{hex_byte, spaced}

-- whether the digits of the first n numbers are those of the table, as a computation
abbrev are_digits : (digit : ℕ → ℕ) → ℕ → Bool
are_digits digit zero = true
are_digits digit (suc n) = (digit n == slice_index lower_digits n) && are_digits digit n

digits_below : (digit : ℕ → ℕ) (n k : ℕ) → are_digits digit n ≡ true → k < n → digit k ≡ slice_index lower_digits k
digits_below digit zero k h lt = absurd (omega arith)
digits_below digit (suc n) k h lt =
    let parts = and_parts (digit n == slice_index lower_digits n) (are_digits digit n) h in
    elim (cases_lt k n) [
      | inl below ↦ digits_below digit n k parts.1 below
      | inr top ↦
          let e : k ≡ n = omega arith in
          rw e (eqb-true (digit n) (slice_index lower_digits n) parts.0)
    ]

pub hex_digit_is : (n : ℕ) → n < 16 → n + 48 + (if nat_lt 9 n then 39 else 0) ≡ slice_index lower_digits n
hex_digit_is n lt = digits_below (λ n. n + 48 + (if nat_lt 9 n then 39 else 0)) 16 n refl lt

pub two_digits_are : (byte : ℕ) → byte < 256 → two_hex_digits byte ≡ hex_byte byte
unfolding encode_with
two_digits_are byte lt =
    let high : byte / 16 % 16 ≡ byte / 16 = omega arith in
    rw (high, digits_below hex_digit 16 (byte / 16) refl (omega arith), digits_below hex_digit 16 (byte % 16) refl (omega arith)) refl

-- the only clause of a successful append
pub taken_where_ok : {T E X : Type 0} (r : Result T E) (x a b : X) → x ≡ cond (is_ok r) a b → OnOk r (x ≡ a)
taken_where_ok (Ok t) x a b h = h
taken_where_ok (Err e) x a b h = tt

-- the digits of short numbers
pub two_digits : (n : ℕ) → 10 ≤ n → n < 100 → decimal n ≡ (48 + n % 100 / 10) ∷ (48 + n % 100 % 10) ∷ []
two_digits n lo hi = let small : n % 100 ≡ n = omega arith in rw (decimal_two n lo hi, small) refl

pub three_digits : (n : ℕ) → 100 ≤ n → n < 1000 → decimal n ≡ (48 + n / 100) ∷ (48 + n % 100 / 10) ∷ (48 + n % 100 % 10) ∷ []
three_digits n lo hi = rw (decimal_pair n lo (omega arith), decimal_digit (n / 100) (omega arith)) refl

pub four_digits : (n : ℕ) → 1000 ≤ n → n < 10000 → decimal n ≡ (48 + n / 100 / 10) ∷ (48 + n / 100 % 10) ∷ (48 + n % 100 / 10) ∷ (48 + n % 100 % 10) ∷ []
four_digits n lo hi = rw (decimal_pair n (omega arith) (omega arith), decimal_two (n / 100) (omega arith) (omega arith)) refl

-- the digits of a byte, one by one
pub pair_is : (digits : List ℕ) (byte : ℕ) → digits ≡ hex_byte byte → (slice_index digits 0 ≡ slice_index lower_digits (byte / 16)) × (slice_index digits 1 ≡ slice_index lower_digits (byte % 16))
unfolding encode_with
pair_is digits byte h = (ap (λ l. slice_index l 0) h, ap (λ l. slice_index l 1) h)

-- the rest of the text, starting at one byte
spaced-drop : (xs : List ℕ) (i : ℕ) → i < length xs → spaced hex_byte (drop i xs) ≡
    32 ∷ slice_index lower_digits (slice_index xs i / 16) ∷ slice_index lower_digits (slice_index xs i % 16) ∷ spaced hex_byte (drop (i + 1) xs)
unfolding encode_with
spaced-drop xs i h = rw (drop_more xs i 0 h) refl

-- one more byte is written after the space that precedes it
pub spaced_step : (input output : List ℕ) (i x y : ℕ) → i < length input → 3 * i + 2 < length output → get_or output (3 * i) 0 ≡ 32
    → x ≡ slice_index lower_digits (slice_index input i / 16) → y ≡ slice_index lower_digits (slice_index input i % 16)
    → take (3 * i) output ++ spaced hex_byte (drop i input) ≡ spaced hex_byte input
    → take (3 * (i + 1)) (slice_set (slice_set output (3 * i + 1) x) (3 * i + 2) y) ++ spaced hex_byte (drop (i + 1) input) ≡ spaced hex_byte input
spaced_step input output i x y h fits space ex ey inv =
    let three : 3 * (i + 1) ≡ 3 * i + 1 + 2 = omega arith in
    let two : 3 * i + 2 ≡ 3 * i + 1 + 1 = omega arith in
    let digits = take-two_writes output (3 * i + 1) x y (omega arith) in
    let front = take_more output (3 * i) 0 (omega arith) in
    let rest = spaced-drop input i h in
    let outer = append_assoc (take (3 * i) output ++ 32 ∷ []) (x ∷ y ∷ []) (spaced hex_byte (drop (i + 1) input)) in
    rw (three, two, digits, front, space, outer, append_assoc, ex, ey) (rw rest at inv)

-- every byte is written
pub spaced_done : (input output : List ℕ) (i : ℕ) → length input ≤ i → length output ≡ 3 * length input
    → take (3 * i) output ++ spaced hex_byte (drop i input) ≡ spaced hex_byte input → output ≡ spaced hex_byte input
spaced_done input output i h len inv =
    let d = drop_all i input h in
    let a = take_all (3 * i) output (omega arith) in
    rw (d, a, append-nil) at inv
