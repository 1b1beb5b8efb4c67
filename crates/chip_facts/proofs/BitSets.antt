-- Sets of numbers as sequences of bits, and how adding a number or changing a word affects them.
use Rattle.std.proofs.Common.{◌≡◌, ℕ, ◌+◌, ◌-◌, ◌*◌, ◌/◌, ◌%◌, ◌^◌, ◌<◌, ◌≤◌, ◌==◌, max, bit_or, true, false, Bool, List, length, get_or, set, sym, ap, ◌∙◌, inl, inr, arith, subst, eq-eqb, get_or-set_same, get_or-set_other, w64}
use Rattle.std.specs.Int.{bit_at, trailing_zeros}
use Rattle.std.proofs.lemmas.Bool.{cases_eq, cases_lt, eqb-true, false≢true}
use Rattle.std.proofs.lemmas.List.{get_or_past}
use Rattle.std.proofs.lemmas.Nat.{pow_pos, shr-shr, shr_le, shr_split}
use Rattle.std.proofs.lemmas.Nat.Bits.{bit_at-lt, bit_at-zero, bit_at_or, bit_at_set_same, bit_at_set_other, bit_at_cat_low, bit_at_cat_high, bit_at_above, bit_at-trailing_zeros}
use Rattle.chip_facts.specs.Sets.{has, Holds}

-- the words after a number is added
abbrev with_bit : List ℕ → ℕ → List ℕ
with_bit words n = set words (n / 64) (bit_or (get_or words (n / 64) 0) (1 * 2 ^ (n % 64) % 2 ^ 64))

pub put_there : (words : List ℕ) (n : ℕ) → n < 64 * length words → Holds (with_bit words n) n
put_there words n inside =
    let at : n / 64 < length words = omega arith in
    let bit : n % 64 < 64 = omega arith in
    eq-eqb _ _ (ap (λ w. bit_at w (n % 64)) (get_or-set_same words (n / 64) _ 0 at) ∙ bit_at_set_same w64 (get_or words (n / 64) 0) (n % 64) bit)

pub put_keeps : (words : List ℕ) (n : ℕ) → n < 64 * length words → (m : ℕ) → Holds words m → Holds (with_bit words n) m
put_keeps words n inside m h =
    let at : n / 64 < length words = omega arith in
    let bit : n % 64 < 64 = omega arith in
    elim (cases_eq (m / 64) (n / 64)) [
      | inl one ↦ elim (cases_eq (m % 64) (n % 64)) [
        | inl same ↦
            let is : m ≡ n = omega arith in
            subst (λ k. Holds (with_bit words n) k) (sym is) (put_there words n inside)
        | inr other ↦
            eq-eqb _ _ (ap (λ k. bit_at (get_or (with_bit words n) k 0) (m % 64)) one
            ∙ ap (λ w. bit_at w (m % 64)) (get_or-set_same words (n / 64) _ 0 at)
            ∙ bit_at_set_other w64 (get_or words (n / 64) 0) (n % 64) bit (m % 64) other
            ∙ ap (λ k. bit_at (get_or words k 0) (m % 64)) (sym one)
            ∙ eqb-true _ _ h)
      ]
      | inr other ↦
          eq-eqb _ _ (ap (λ w. bit_at w (m % 64)) (get_or-set_other words (n / 64) (m / 64) _ 0 other) ∙ eqb-true _ _ h)
    ]

-- a word that contains another word's bits contains each of them
pub word_within : (some all : List ℕ) (n : ℕ) → bit_or (get_or some (n / 64) 0) (get_or all (n / 64) 0) ≡ get_or all (n / 64) 0 → Holds some n → Holds all n
word_within some all n is h =
    let one : bit_at (get_or some (n / 64) 0) (n % 64) ≡ 1 = eqb-true _ _ h in
    let both : bit_at (get_or all (n / 64) 0) (n % 64) ≡ max (bit_at (get_or some (n / 64) 0) (n % 64)) (bit_at (get_or all (n / 64) 0) (n % 64)) =
    ap (λ w. bit_at w (n % 64)) (sym is) ∙ bit_at_or _ _ (n % 64) in
    eq-eqb _ _ (omega (arith, bit_at-lt (get_or all (n / 64) 0) (n % 64)))

-- a number that a test didn't find in a set isn't in it
pub not_there : (words : List ℕ) (i n : ℕ) (found : Bool) → found ≡ has words i → found ≡ false → i ≡ n → Holds words n → ⊥
not_there words i n found is none same h = false≢true (sym none ∙ is ∙ subst (λ k. has words k ≡ true) (sym same) h)

-- a number in a set is less than the number of the set's bits
pub holds_inside : (words : List ℕ) (n : ℕ) → Holds words n → n < 64 * length words
holds_inside words n h =
    elim (cases_lt (n / 64) (length words)) [
      | inl within ↦ omega arith
      | inr past ↦
          let zero : bit_at (get_or words (n / 64) 0) (n % 64) ≡ 0 = ap (λ w. bit_at w (n % 64)) (get_or_past words (n / 64) 0 past) ∙ bit_at-zero (n % 64) in
          absurd (false≢true (sym (ap (λ b. b == 1) zero) ∙ h))
    ]

-- a number whose bit is 0 isn't in the set, as a test
pub no_bit : (words : List ℕ) (n : ℕ) → bit_at (get_or words (n / 64) 0) (n % 64) ≡ 0 → has words n ≡ false
no_bit words n zero = ap (λ b. b == 1) zero

-- no number in a set is less than the set's first number
pub below_first : (words : List ℕ) (P : ℕ → Type 0) (first : ℕ) → ((n : ℕ) → 0 ≤ n → n < first → has words n ≡ false) → (n : ℕ) → n < first → Holds words n → P n
below_first words P first none n small h = absurd (false≢true (sym (none n (omega arith) small) ∙ h))

-- if P is true of the numbers of a set up to one of them, it is true of those below the next one
pub below_next : (words : List ℕ) (P : ℕ → Type 0) (here then : ℕ) → ((n : ℕ) → here + 1 ≤ n → n < then → has words n ≡ false)
    → ((n : ℕ) → n < here → Holds words n → P n) → P here → (n : ℕ) → n < then → Holds words n → P n
below_next words P here then none before is n small h =
    elim (cases_lt n here) [
      | inl below ↦ before n below h
      | inr past ↦ elim (cases_eq n here) [
        | inl same ↦ subst P (sym same) is
        | inr other ↦ absurd (false≢true (sym (none n (omega arith) small) ∙ h))
      ]
    ]

-- the bits of a word that is shifted right
pub bit_shr : (word k i : ℕ) → bit_at (word / 2 ^ k) i ≡ bit_at word (k + i)
bit_shr word k i = ap (λ n. n % 2) (shr-shr word k i)

-- the bits of a word that is shifted left, except those that are lost
pub bit_shl : (word k i : ℕ) → i + k < 64 → bit_at (word * 2 ^ k % 2 ^ 64) (i + k) ≡ bit_at word i
bit_shl word k i inside =
    let zero : word * 2 ^ k ≡ word * 2 ^ k + 0 = omega arith in
    let over : k ≤ i + k = omega arith in
    let less : i + k - k ≡ i = omega arith in
    sym (bit_at_cat_low (word * 2 ^ k / 2 ^ 64) 64 (word * 2 ^ k % 2 ^ 64) (i + k) inside)
    ∙ ap (λ n. bit_at n (i + k)) (shr_split (word * 2 ^ k) 64 ∙ zero)
    ∙ bit_at_cat_high word k 0 (i + k) (pow_pos k) over
    ∙ ap (λ n. bit_at word n) less

-- the bits of a word starting at one bit are the bits of the word shifted right by that many
bits_from : (word from i : ℕ) → from ≤ i → bit_at word i ≡ bit_at (word / 2 ^ from) (i - from)
bits_from word from i past =
    let is : i ≡ from + (i - from) = omega arith in
    ap (λ n. bit_at word n) is ∙ sym (bit_shr word from (i - from))

pub none_from : (word from : ℕ) → word / 2 ^ from ≡ 0 → (i : ℕ) → from ≤ i → bit_at word i ≡ 0
none_from word from zero i past = bits_from word from i past ∙ ap (λ w. bit_at w (i - from)) zero ∙ bit_at-zero (i - from)

-- the position of a word's first set bit, starting at one bit
pub record IsFirst (word from : ℕ) (zeros : ℕ) : Type 0 where
  pub inside : from + zeros < 64
  pub none : (i : ℕ) → from ≤ i → i < from + zeros → bit_at word i ≡ 0

pub first_from : (word from : ℕ) → word < 2 ^ 64 → (word / 2 ^ from ≡ 0 → ⊥) → IsFirst word from (trailing_zeros w64 (word / 2 ^ from))
first_from word from small some =
    let rest : ℕ = word / 2 ^ from in
    let least : rest ≤ word = shr_le word from in
    let positive : 0 < rest = omega (arith, some) in
    let below : rest < 2 ^ 64 = omega (arith, least, small) in
    let found = bit_at-trailing_zeros w64 rest positive below in
    let zeros : ℕ = trailing_zeros w64 rest in
    let past : from ≤ from + zeros = omega arith in
    let same : from + zeros - from ≡ zeros = omega arith in
    let one : bit_at word (from + zeros) ≡ 1 = bits_from word from (from + zeros) past ∙ ap (λ n. bit_at rest n) same ∙ found.1 in
    record {
      inside = elim (cases_lt (from + zeros) 64) [
        | inl within ↦ within
        | inr over ↦
            let zero : bit_at word (from + zeros) ≡ 0 = bit_at_above word 64 (from + zeros) small over in
            absurd (omega (arith, one, zero))
      ];
      none = λ i after before.
          let under : i - from < zeros = omega arith in
          bits_from word from i after ∙ found.2 (i - from) under;
    }

-- a word that receives the bits of another word contains its own bits and the received bits
pub or_keeps : (words : List ℕ) (i v n : ℕ) → i < length words → Holds words n → Holds (set words i (bit_or (get_or words i 0) v)) n
or_keeps words i v n inside h =
    let one : bit_at (get_or words (n / 64) 0) (n % 64) ≡ 1 = eqb-true _ _ h in
    elim (cases_eq (n / 64) i) [
      | inl same ↦
          let here : bit_at (get_or words i 0) (n % 64) ≡ 1 = subst (λ k. bit_at (get_or words k 0) (n % 64) ≡ 1) same one in
          let both : bit_at (bit_or (get_or words i 0) v) (n % 64) ≡ 1 = omega (arith, bit_at_or (get_or words i 0) v (n % 64), bit_at-lt v (n % 64), here) in
          eq-eqb _ _ (ap (λ k. bit_at (get_or (set words i (bit_or (get_or words i 0) v)) k 0) (n % 64)) same ∙ ap (λ w. bit_at w (n % 64)) (get_or-set_same words i _ 0 inside) ∙ both)
      | inr other ↦ eq-eqb _ _ (ap (λ w. bit_at w (n % 64)) (get_or-set_other words i (n / 64) _ 0 other) ∙ one)
    ]

pub or_there : (words others : List ℕ) (i n : ℕ) → i < length words → n / 64 ≡ i → Holds others n → Holds (set words i (bit_or (get_or words i 0) (get_or others i 0))) n
or_there words others i n inside same h =
    let one : bit_at (get_or others (n / 64) 0) (n % 64) ≡ 1 = eqb-true _ _ h in
    let here : bit_at (get_or others i 0) (n % 64) ≡ 1 = subst (λ k. bit_at (get_or others k 0) (n % 64) ≡ 1) same one in
    let both : bit_at (bit_or (get_or words i 0) (get_or others i 0)) (n % 64) ≡ 1 =
    omega (arith, bit_at_or (get_or words i 0) (get_or others i 0) (n % 64), bit_at-lt (get_or words i 0) (n % 64), here) in
    eq-eqb _ _ (ap (λ k. bit_at (get_or (set words i (bit_or (get_or words i 0) (get_or others i 0))) k 0) (n % 64)) same ∙ ap (λ w. bit_at w (n % 64)) (get_or-set_same words i _ 0 inside) ∙ both)
