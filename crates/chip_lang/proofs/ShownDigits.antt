-- The tables of digits have the right digits at each place.
use Rattle.std.proofs.Common.{◌≡◌, ℕ, zero, suc, ◌+◌, ◌*◌, ◌/◌, ◌%◌, ◌<◌, ◌==◌, ◌&&◌, Bool, true, inl, inr, ◌∷◌, slice_index, refl, arith}
use Rattle.std.proofs.lemmas.Bool.{and_parts, cases_lt, eqb-true}
use Rattle.chip_lang.specs.Show.{hex_digit, two_hex_digits, four_hex_digits, register_digit}
use Rattle.chip_lang.specs.declared.source_text.TheConstants.{DIGIT_PAIRS, REGISTER_DIGITS}

-- true if all numbers below a number pass a test, by computation
abbrev all_below : (ℕ → Bool) → ℕ → Bool
all_below test zero = true
all_below test (suc n) = test n && all_below test n

each_below : (test : ℕ → Bool) (n k : ℕ) → all_below test n ≡ true → k < n → test k ≡ true
each_below test zero k h lt = absurd (omega arith)
each_below test (suc n) k h lt =
    let parts = and_parts (test n) (all_below test n) h in
    elim (cases_lt k n) [
      | inl below ↦ each_below test n k parts.1 below
      | inr top ↦ let e : k ≡ n = omega arith in rw e parts.0
    ]

pub register_digit_is : (n : ℕ) → n < 16 → slice_index REGISTER_DIGITS n ≡ register_digit n
register_digit_is n lt = eqb-true _ _ (each_below (λ k. slice_index REGISTER_DIGITS k == register_digit k) 16 n refl lt)

pub digit_pair : (byte : ℕ) → byte < 256 → (slice_index DIGIT_PAIRS (2 * byte) ≡ hex_digit (byte / 16 % 16)) × (slice_index DIGIT_PAIRS (2 * byte + 1) ≡ hex_digit (byte % 16))
digit_pair byte lt =
    let high : ℕ → Bool = λ k. slice_index DIGIT_PAIRS (2 * k) == hex_digit (k / 16 % 16) in
    let low : ℕ → Bool = λ k. slice_index DIGIT_PAIRS (2 * k + 1) == hex_digit (k % 16) in
    let both = and_parts (high byte) (low byte) (each_below (λ k. high k && low k) 256 byte refl lt) in
    (eqb-true _ _ both.0, eqb-true _ _ both.1)

-- the digits of a number of 16 bits are those of its bytes
pub four_digits : (n : ℕ) → hex_digit (n / 256 / 16 % 16) ∷ hex_digit (n / 256 % 16) ∷ two_hex_digits (n % 256) ≡ four_hex_digits n
four_digits n =
    let first : n / 256 / 16 % 16 ≡ n / 4096 % 16 = omega arith in
    let third : n % 256 / 16 % 16 ≡ n / 16 % 16 = omega arith in
    let fourth : n % 256 % 16 ≡ n % 16 = omega arith in
    rw (first, third, fourth) refl
