-- Sets of bytes shifted up or down, and the new positions of the bits of their words.
use Rattle.std.proofs.Common.{◌≡◌, ℕ, ◌+◌, ◌-◌, ◌*◌, ◌/◌, ◌%◌, ◌^◌, ◌<◌, ◌≤◌, ◌∷◌, [], List, bit_or, get_or, nat_le, nat_lt, ap, ◌∙◌, inl, inr, arith, eq-eqb}
use Rattle.std.specs.Int.{bit_at}
use Rattle.std.proofs.lemmas.Bool.Decides.{nat_tests}
use Rattle.chip_machine.specs.Step.{bit_of}
use Rattle.std.proofs.lemmas.Bool.{cases_eq, eqb-true}
use Rattle.std.proofs.lemmas.Nat.Bits.{bit_at-lt, bit_at_or}
use Rattle.chip_facts.specs.Sets.{Holds}
use Rattle.chip_facts.proofs.BitSets.{bit_shl, bit_shr}

pub or_left : (x y i : ℕ) → bit_at x i ≡ 1 → bit_at (bit_or x y) i ≡ 1
or_left x y i one = omega (arith, bit_at_or x y i, bit_at-lt y i, one)

pub or_right : (x y i : ℕ) → bit_at y i ≡ 1 → bit_at (bit_or x y) i ≡ 1
or_right x y i one = omega (arith, bit_at_or x y i, bit_at-lt x i, one)

-- a sum is in the word that is shifted up within itself, or in the word above it
pub raised_within : (set : List ℕ) (a by : ℕ) → Holds set a → a % 64 + by % 64 < 64 → bit_at (get_or set (a / 64) 0 * 2 ^ (by % 64) % 2 ^ 64) ((a + by) % 64) ≡ 1
raised_within set a by h inside =
    let is : (a + by) % 64 ≡ a % 64 + by % 64 = omega (arith, inside) in
    ap (λ n. bit_at (get_or set (a / 64) 0 * 2 ^ (by % 64) % 2 ^ 64) n) is ∙ bit_shl (get_or set (a / 64) 0) (by % 64) (a % 64) inside ∙ eqb-true _ _ h

pub raised_over : (set : List ℕ) (a by : ℕ) → Holds set a → 64 ≤ a % 64 + by % 64 → bit_at (get_or set (a / 64) 0 / 2 ^ (64 - by % 64)) ((a + by) % 64) ≡ 1
raised_over set a by h over =
    let is : 64 - by % 64 + (a + by) % 64 ≡ a % 64 = omega (arith, over) in
    bit_shr (get_or set (a / 64) 0) (64 - by % 64) ((a + by) % 64) ∙ ap (λ n. bit_at (get_or set (a / 64) 0) n) is ∙ eqb-true _ _ h

-- a difference is in the word that is shifted down within itself, or in the word below it
pub lowered_within : (set : List ℕ) (a by : ℕ) → Holds set a → by ≤ a → by % 64 ≤ a % 64 → bit_at (get_or set (a / 64) 0 / 2 ^ (by % 64)) ((a - by) % 64) ≡ 1
lowered_within set a by h least inside =
    let is : by % 64 + (a - by) % 64 ≡ a % 64 = omega (arith, least, inside) in
    bit_shr (get_or set (a / 64) 0) (by % 64) ((a - by) % 64) ∙ ap (λ n. bit_at (get_or set (a / 64) 0) n) is ∙ eqb-true _ _ h

pub lowered_over : (set : List ℕ) (a by : ℕ) → Holds set a → by ≤ a → a % 64 < by % 64 → bit_at (get_or set (a / 64) 0 * 2 ^ (64 - by % 64) % 2 ^ 64) ((a - by) % 64) ≡ 1
lowered_over set a by h least over =
    let is : (a - by) % 64 ≡ a % 64 + (64 - by % 64) = omega (arith, least, over) in
    let inside : a % 64 + (64 - by % 64) < 64 = omega (arith, over) in
    ap (λ n. bit_at (get_or set (a / 64) 0 * 2 ^ (64 - by % 64) % 2 ^ 64) n) is ∙ bit_shl (get_or set (a / 64) 0) (64 - by % 64) (a % 64) inside ∙ eqb-true _ _ h

-- a number is in a set of four words if its bit is set in its word
pub in_four : (w0 w1 w2 w3 n : ℕ) → n < 256 → (n / 64 ≡ 0 → bit_at w0 (n % 64) ≡ 1) → (n / 64 ≡ 1 → bit_at w1 (n % 64) ≡ 1)
    → (n / 64 ≡ 2 → bit_at w2 (n % 64) ≡ 1) → (n / 64 ≡ 3 → bit_at w3 (n % 64) ≡ 1) → Holds (w0 ∷ (w1 ∷ (w2 ∷ (w3 ∷ [])))) n
in_four w0 w1 w2 w3 n small zero one two three =
    let all : List ℕ = w0 ∷ (w1 ∷ (w2 ∷ (w3 ∷ []))) in
    elim (cases_eq (n / 64) 0) [
      | inl is ↦ eq-eqb _ _ (ap (λ k. bit_at (get_or all k 0) (n % 64)) is ∙ zero is)
      | inr a ↦ elim (cases_eq (n / 64) 1) [
        | inl is ↦ eq-eqb _ _ (ap (λ k. bit_at (get_or all k 0) (n % 64)) is ∙ one is)
        | inr b ↦ elim (cases_eq (n / 64) 2) [
          | inl is ↦ eq-eqb _ _ (ap (λ k. bit_at (get_or all k 0) (n % 64)) is ∙ two is)
          | inr d ↦
              let is : n / 64 ≡ 3 = omega (arith, small) in
              eq-eqb _ _ (ap (λ k. bit_at (get_or all k 0) (n % 64)) is ∙ three is)
        ]
      ]
    ]

-- the flags of a sum and of a difference
pub no_carry : (a b : ℕ) → bit_of (nat_lt 255 (a + b)) ≡ 0 → a + b < 256
no_carry a b none = grind (arith, nat_tests)

pub borrows : (a b : ℕ) → bit_of (nat_le b a) ≡ 0 → a < b
borrows a b none = grind (arith, nat_tests)
