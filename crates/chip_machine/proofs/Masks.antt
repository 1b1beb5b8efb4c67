-- Masks of parts: their bits, masks that share no bit, and the bits of a mask after some are removed
-- and others are added.
use Rattle.std.proofs.Common.{◌≡◌, ◌≢◌, ℕ, ◌-◌, ◌*◌, ◌/◌, ◌%◌, ◌^◌, ◌<◌, ◌≤◌, ◌==◌, ◌&&◌, ◌||◌, min, max, bit_and, bit_or, true, false, not, List, [], ◌∷◌, refl, sym, ap, ◌∙◌, inl, inr, arith, rules, eq-eqb, nat_le, subst, w32, w64, Bool}
use Rattle.std.specs.Int.{bit_at, bit_not}
use Rattle.std.specs.List.{list_all, list_any}
use Rattle.std.proofs.lemmas.Bool.{agree_below_at, and_from, and_parts, and_right, cases_eq, cases_lt, eqb-true, le-leb, leb-true, ne_eqb, not-true, not_from_false, or_cases, or_left, or_right}
use Rattle.std.proofs.lemmas.Nat.{or_comm}
use Rattle.std.proofs.lemmas.Nat.Bits.{bit_at-lt, bit_at-pow_other, bit_at-pow_same, bit_at-zero, bit_at_above, bit_at_and, bit_at_clear_other, bit_at_not, bit_at_or}
use Rattle.chip_machine.specs.Forgotten.{first_registers, has_byte, has_part, is_forgotten_by, is_one_forgotten, is_one_of}
use Rattle.chip_machine.specs.inner.Masks.{mask_of}
use Rattle.chip_machine.specs.inner.Packed.{AreSmall, bytes_packed, packed, parts_packed, window_packed}

-- ---- masks as the code computes them

pub mask_of_one : (p : ℕ) → p < 32 → 1 * 2 ^ p % 4294967296 ≡ mask_of (p ∷ [])
mask_of_one p low =
    let shifted : 1 * 2 ^ p % 4294967296 ≡ 2 ^ p = search rules in
    shifted ∙ or_comm 0 (2 ^ p)

pub mask_of_two : (p q : ℕ) → p < 32 → q < 32 → bit_or (1 * 2 ^ p % 4294967296) (1 * 2 ^ q % 4294967296) ≡ mask_of (p ∷ q ∷ [])
mask_of_two p q low small =
    let shifted : 1 * 2 ^ p % 4294967296 ≡ 2 ^ p = search rules in
    ap (λ m. bit_or m (1 * 2 ^ q % 4294967296)) shifted ∙ ap (bit_or (2 ^ p)) (mask_of_one q small)

pub mask_of_first : (x : ℕ) → x < 16 → 16 * 2 ^ x % 4294967296 - 8 ≡ mask_of (first_registers x)
mask_of_first x low =
    eqb-true _ _ (agree_below_at (λ n. 16 * 2 ^ n % 4294967296 - 8 == mask_of (first_registers n)) (λ _. true) 16 x refl low)

-- ---- the bits of masks

abbrev has_bit : ℕ → ℕ → Bool
has_bit m k = m / 2 ^ k % 2 == 1

is_on : (m part : ℕ) → bit_at m part ≡ 1 → has_bit m part ≡ true
is_on m part one = eq-eqb _ _ one

is_off : (m part : ℕ) → bit_at m part ≡ 0 → has_bit m part ≡ false
is_off m part zero = ap (λ b. b == 1) zero

on : (m part : ℕ) → has_bit m part ≡ true → bit_at m part ≡ 1
on m part h = eqb-true _ _ h

pub off : (m part : ℕ) → has_bit m part ≡ false → bit_at m part ≡ 0
off m part h =
    elim (cases_eq (bit_at m part) 1) [
      | inl one ↦ absurd (let is = is_on m part one in cc)
      | inr other ↦ omega (arith, bit_at-lt m part)
    ]

mask_has : (parts : List ℕ) (part : ℕ) → has_bit (mask_of parts) part ≡ is_one_of parts part
mask_has [] part = is_off 0 part (bit_at-zero part)
mask_has (p ∷ ps) part =
    elim (cases_eq part p) [
      | inl same ↦
          let one : bit_at (2 ^ p) part ≡ 1 = ap (bit_at (2 ^ p)) same ∙ bit_at-pow_same p in
          is_on _ part (bit_at_or (2 ^ p) (mask_of ps) part ∙ omega (arith, bit_at-lt (mask_of ps) part))
          ∙ sym (or_left (part == p) (is_one_of ps part) (eq-eqb part p same))
      | inr other ↦
          let none : bit_at (2 ^ p) part ≡ 0 = bit_at-pow_other p part other in
          let rest : bit_at (bit_or (2 ^ p) (mask_of ps)) part ≡ bit_at (mask_of ps) part = bit_at_or (2 ^ p) (mask_of ps) part ∙ omega arith in
          ap (λ b. b == 1) rest ∙ mask_has ps part ∙ ap (λ b. b || is_one_of ps part) (sym (ne_eqb part p other))
    ]

all_off : (m : ℕ) (parts : List ℕ) → ((part : ℕ) → is_one_of parts part ≡ true → has_bit m part ≡ false) → list_all (λ part. not (has_bit m part)) parts ≡ true
all_off m [] h = refl
all_off m (p ∷ ps) h =
    and_from _ _ (not_from_false _ (h p (or_left (p == p) (is_one_of ps p) (eq-eqb p p refl))))
    (all_off m ps (λ part one. h part (or_right (part == p) (is_one_of ps part) one)))

none_on : (test : ℕ → Bool) (parts : List ℕ) → list_all (λ part. not (test part)) parts ≡ true → list_any test parts ≡ false
none_on test [] h = refl
none_on test (p ∷ ps) h =
    let both = and_parts (not (test p)) (list_all (λ part. not (test part)) ps) h in
    ap (λ b. b || list_any test ps) (not-true (test p) both.0) ∙ none_on test ps both.1

-- a mask that contains none of several bits
none_in : (m : ℕ) (parts : List ℕ) → bit_and m (mask_of parts) ≡ 0 → list_all (λ part. not (has_bit m part)) parts ≡ true
none_in m parts none =
    all_off m parts (λ part one.
    let set : bit_at (mask_of parts) part ≡ 1 = on (mask_of parts) part (mask_has parts part ∙ one) in
    let both : min (bit_at m part) (bit_at (mask_of parts) part) ≡ 0 = sym (bit_at_and m (mask_of parts) part) ∙ ap (λ n. bit_at n part) none ∙ bit_at-zero part in
    is_off m part (omega arith))

-- a bit of the mask stays if its part isn't set, and a bit is added if its part is spoiled
left_in : (m : ℕ) (set spoilt : List ℕ) → m < 2 ^ 32 → mask_of set < 2 ^ 32 → (part : ℕ) → (has_bit m part && not (is_one_of set part) || is_one_of spoilt part) ≡ true
    → has_bit (bit_or (bit_and m (bit_not w32 (mask_of set))) (mask_of spoilt)) part ≡ true
left_in m set spoilt small fits part h =
    let kept = bit_and m (bit_not w32 (mask_of set)) in
    elim (or_cases (has_bit m part && not (is_one_of set part)) (is_one_of spoilt part) h) [
      | inl left ↦
          let parts = and_parts (has_bit m part) (not (is_one_of set part)) left in
          let here : bit_at m part ≡ 1 = on m part parts.0 in
          let place : part < 32 = elim (cases_lt part 32) [ inl low ↦ low | inr high ↦ absurd (let none = bit_at_above m 32 part small high in omega arith) ] in
          let unset : bit_at (mask_of set) part ≡ 0 = off (mask_of set) part (mask_has set part ∙ not-true _ parts.1) in
          let stays : bit_at (bit_not w32 (mask_of set)) part ≡ 1 = bit_at_not w32 (mask_of set) part fits place ∙ omega arith in
          let keeps : bit_at kept part ≡ 1 = bit_at_and m (bit_not w32 (mask_of set)) part ∙ omega arith in
          is_on _ part (bit_at_or kept (mask_of spoilt) part ∙ omega (arith, bit_at-lt (mask_of spoilt) part))
      | inr now ↦
          let put : bit_at (mask_of spoilt) part ≡ 1 = on (mask_of spoilt) part (mask_has spoilt part ∙ now) in
          is_on _ part (bit_at_or kept (mask_of spoilt) part ∙ omega (arith, bit_at-lt kept part))
    ]

-- a mask without bits outside another mask
within : (m n : ℕ) → bit_or m n ≡ n → (part : ℕ) → has_bit m part ≡ true → has_bit n part ≡ true
within m n same part h =
    let one : bit_at m part ≡ 1 = on m part h in
    let both : bit_at n part ≡ max (bit_at m part) (bit_at n part) = ap (λ k. bit_at k part) (sym same) ∙ bit_at_or m n part in
    is_on n part (omega (arith, bit_at-lt n part))

-- a mask with more bits
with_more : (m n part : ℕ) → has_bit m part ≡ true → has_bit (bit_or m n) part ≡ true
with_more m n part h = let one = on m part h in is_on _ part (bit_at_or m n part ∙ omega (arith, bit_at-lt n part))

with_one : (m p : ℕ) → has_bit (bit_or m (2 ^ p)) p ≡ true
with_one m p = is_on _ p (bit_at_or m (2 ^ p) p ∙ omega (arith, bit_at-pow_same p, bit_at-lt m p))

-- removing one bit from a mask keeps the other bits
without_one : (m p k : ℕ) → m < 2 ^ 64 → p < 64 → has_bit m k ≡ true → k ≢ p → has_bit (bit_and m (bit_not w64 (1 * 2 ^ p % 18446744073709551616))) k ≡ true
without_one m p k small low h other =
    let here : bit_at m k ≡ 1 = on m k h in
    let place : k < 64 = elim (cases_lt k 64) [ inl below ↦ below | inr high ↦ absurd (let none = bit_at_above m 64 k small high in omega arith) ] in
    is_on _ k (bit_at_clear_other w64 m p low k place other ∙ here)

-- ---- how a set of forgotten parts and bytes is stored

abbrev pub byte_by : (window bytes at : ℕ) → Bool
byte_by window bytes at = nat_le window at && has_bit bytes (at - window)

module _ (p w b v : ℕ) (is : packed p w b ≡ v) (small : AreSmall p w) where
  pub parts_is : v % 2 ^ 32 ≡ p
  parts_is = ap (λ (n : ℕ). n % 2 ^ 32) (sym is) ∙ parts_packed p w b small.0

  pub part_is : (part : ℕ) → has_part v part ≡ has_bit p part
  part_is part = ap (λ (n : ℕ). has_bit n part) parts_is

  pub byte_is : (at : ℕ) → has_byte v at ≡ byte_by w b at
  byte_is at =
      ap (λ (n : ℕ). byte_by n (v / 2 ^ 32 / 2 ^ 16) at) (ap (λ (n : ℕ). n / 2 ^ 32 % 2 ^ 16) (sym is) ∙ window_packed p w b small.0 small.1)
      ∙ ap (λ (n : ℕ). byte_by w n at) (ap (λ (n : ℕ). n / 2 ^ 32 / 2 ^ 16) (sym is) ∙ bytes_packed p w b small.0 small.1)

  pub no_byte : b ≡ 0 → (at : ℕ) → has_byte v at ≡ false
  no_byte none at =
      byte_is at ∙ ap (λ (n : ℕ). byte_by w n at) none ∙ and_right (nat_le w at) _ (is_off 0 (at - w) (bit_at-zero (at - w)))

  pub byte_past : (at : ℕ) → b < 2 ^ 64 → 64 ≤ at - w → has_byte v at ≡ false
  byte_past at low far = byte_is at ∙ and_right (nat_le w at) _ (is_off b (at - w) (bit_at_above b 64 (at - w) low far))

  pub none_read : (parts : List ℕ) → bit_and p (mask_of parts) ≡ 0 → list_all (λ part. not (has_part v part)) parts ≡ true
  none_read parts none =
      subst (λ (m : ℕ). list_all (λ part. not (has_bit m part)) parts ≡ true) (sym parts_is) (none_in p parts none)

  pub none_used : (parts : List ℕ) → bit_and p (mask_of parts) ≡ 0 → is_one_forgotten v parts ≡ false
  none_used parts none = none_on (has_part v) parts (none_read parts none)

  -- the set with other parts, or with other bytes in the window
  module _ (q c u : ℕ) (now : packed q w c ≡ u) (little : AreSmall q w) where
    pub left_or_spoilt : (set spoilt : List ℕ) → q ≡ bit_or (bit_and p (bit_not w32 (mask_of set))) (mask_of spoilt) → mask_of set < 2 ^ 32 → (part : ℕ)
        → is_forgotten_by v set spoilt part ≡ true → has_part u part ≡ true
    left_or_spoilt set spoilt made fits part h =
        let low : u % 2 ^ 32 ≡ q = ap (λ (n : ℕ). n % 2 ^ 32) (sym now) ∙ parts_packed q w c little.0 in
        let there = subst (λ (m : ℕ). (has_bit m part && not (is_one_of set part) || is_one_of spoilt part) ≡ true) parts_is h in
        subst (λ (m : ℕ). has_bit m part ≡ true) (sym (low ∙ made)) (left_in p set spoilt small.0 fits part there)

    pub with_parts : (more : ℕ) → q ≡ bit_or p more → (part : ℕ) → has_part v part ≡ true → has_part u part ≡ true
    with_parts more made part h =
        let low : u % 2 ^ 32 ≡ q = ap (λ (n : ℕ). n % 2 ^ 32) (sym now) ∙ parts_packed q w c little.0 in
        subst (λ (m : ℕ). has_bit m part ≡ true) (sym (low ∙ made)) (with_more p more part (sym (part_is part) ∙ h))

    pub with_part : (part : ℕ) → part < 32 → q ≡ bit_or p (1 * 2 ^ part % 4294967296) → has_part u part ≡ true
    with_part part fits made =
        let low : u % 2 ^ 32 ≡ q = ap (λ (n : ℕ). n % 2 ^ 32) (sym now) ∙ parts_packed q w c little.0 in
        let shifted : 1 * 2 ^ part % 4294967296 ≡ 2 ^ part = search rules in
        subst (λ (m : ℕ). has_bit m part ≡ true) (sym (low ∙ made ∙ ap (bit_or p) shifted)) (with_one p part)

-- every part of one set is in another set
pub parts_within : (p q v u : ℕ) → v % 2 ^ 32 ≡ p → u % 2 ^ 32 ≡ q → bit_or p q ≡ q → (part : ℕ) → has_part v part ≡ true → has_part u part ≡ true
parts_within p q v u is now same part h =
    subst (λ (m : ℕ). has_bit m part ≡ true) (sym now) (within p q same part (subst (λ (m : ℕ). has_bit m part ≡ true) is h))

pub bytes_within : (w b c : ℕ) → bit_or b c ≡ c → (at : ℕ) → byte_by w b at ≡ true → byte_by w c at ≡ true
bytes_within w b c same at h =
    let both = and_parts (nat_le w at) (has_bit b (at - w)) h in
    and_from (nat_le w at) (has_bit c (at - w)) both.0 (within b c same (at - w) both.1)

-- the set with the byte at an address
pub byte_more : (w b more at : ℕ) → byte_by w b at ≡ true → byte_by w (bit_or b more) at ≡ true
byte_more w b more at h =
    let both = and_parts (nat_le w at) (has_bit b (at - w)) h in
    and_from (nat_le w at) _ both.0 (with_more b more (at - w) both.1)

pub byte_new : (w b at : ℕ) → w ≤ at → at - w < 64 → byte_by w (bit_or b (1 * 2 ^ (at - w) % 18446744073709551616)) at ≡ true
byte_new w b at above low =
    let shifted : 1 * 2 ^ (at - w) % 18446744073709551616 ≡ 2 ^ (at - w) = search rules in
    and_from (nat_le w at) _ (le-leb w at above) (subst (λ (n : ℕ). has_bit (bit_or b n) (at - w) ≡ true) (sym shifted) (with_one b (at - w)))

-- the set without the byte at an address
pub byte_left : (w b a at : ℕ) → b < 2 ^ 64 → w ≤ a → a - w < 64 → byte_by w b at ≡ true → at ≢ a
    → byte_by w (bit_and b (bit_not w64 (1 * 2 ^ (a - w) % 18446744073709551616))) at ≡ true
byte_left w b a at small above low h other =
    let both = and_parts (nat_le w at) (has_bit b (at - w)) h in
    let over = leb-true w at both.0 in
    and_from (nat_le w at) _ both.0 (without_one b (a - w) (at - w) small low both.1 (λ same. other (omega arith)))
