-- Rows of bits: how a shift, an exclusive or and a mask change each bit.
use Rattle.std.proofs.Common.{◌≡◌, ℕ, ◌+◌, ◌-◌, ◌*◌, ◌/◌, ◌%◌, ◌^◌, ◌<◌, ◌≤◌, Bool, true, false, not, ◌&&◌, ◌||◌, ◌==◌, ◌≢◌, nat_eq, min, max, refl, sym, ap, ◌∙◌, arith, add-zero, subst, ◌⊎◌, inl, inr, nat_le, ⊎_elim, bit_and, get_or}
use Rattle.std.proofs.Math.Bool.{or-false}
use Rattle.std.specs.Int.{bit_at}
use Rattle.std.specs.Prelude.{bit_or, bit_xor}
use Rattle.std.specs.Int.Bits.{or_zero_l}
use Rattle.std.proofs.lemmas.Nat.{shr-shr, shl-shr, shl_whole, and_le_r, le_or_l, pow_pos, pow-add, shr_split}
use Rattle.std.proofs.Math.Nat.{mul_assoc}
use Rattle.std.proofs.lemmas.Nat.Bits.{bit_at_and, bit_at_or, bit_at_xor, bit_at-zero, bit_at-lt, bit_at_above, bit_at_cat_low, bit_at_cat_high, same_from_bits_below}
use Rattle.std.proofs.lemmas.Bool.{false≢true, cases_lt, cases_Bool, eqb-true, eqb-false, eq-eqb, ne_eqb, not-false, cases_eq, and_left, lt-leb, le-leb}
use Rattle.chip_machine.specs.declared.doubled.TheConstants.{DOUBLED}
use Rattle.chip_machine.specs.inner.Stored.{differ, any_below}
use Rattle.chip_machine.specs.Points.{lights}
use Rattle.chip_machine.proofs.PointLemmas.{any_below-false, any_below_none, any_below_same}

-- ---- each bit of a byte occurs twice

wrong_bit : ℕ → ℕ → Bool
wrong_bit byte k = not (nat_eq (bit_at (get_or DOUBLED byte 0) k) (bit_at byte (k / 2)))

no_wrong_byte : any_below (λ byte. any_below (wrong_bit byte) 16) 256 ≡ false
unfolding any_below wrong_bit
no_wrong_byte = refl

pub bit_at-doubled : (byte k : ℕ) → byte < 256 → k < 16 → bit_at (get_or DOUBLED byte 0) k ≡ bit_at byte (k / 2)
unfolding wrong_bit
bit_at-doubled byte k small within =
    eqb-true _ _ (not-false _ (any_below-false (wrong_bit byte) 16 (any_below-false (λ byte. any_below (wrong_bit byte) 16) 256 no_wrong_byte byte small) k within))

-- ---- sixteen bits, placed at the left and moved right

moved : (bits k start m : ℕ) → bit_at (bits * 2 ^ k / 2 ^ start) m ≡ bit_at (bits * 2 ^ k + 0) (start + m)
moved bits k start m = ap (λ n. n % 2) (shr-shr (bits * 2 ^ k) start m) ∙ ap (λ n. bit_at n (start + m)) (sym (add-zero (bits * 2 ^ k)))

module _ (bits start column : ℕ) (fits : bits < 2 ^ 16) (on_screen : column < 128) where
  whole : bit_at (bits * 2 ^ 112 % 2 ^ 128 / 2 ^ start) (127 - column) ≡ bit_at (bits * 2 ^ 112 + 0) (start + (127 - column))
  whole = ap (λ n. bit_at (n / 2 ^ start) (127 - column)) (shl_whole bits 16 112 128 fits (omega arith)) ∙ moved bits 112 start (127 - column)

  high_part : 112 ≤ start + (127 - column) → bit_at (bits * 2 ^ 112 % 2 ^ 128 / 2 ^ start) (127 - column) ≡ bit_at bits (start + (127 - column) - 112)
  high_part h = whole ∙ bit_at_cat_high bits 112 0 (start + (127 - column)) (pow_pos 112) h

  pub stripe_inside : start ≤ column → column < start + 16 → bit_at (bits * 2 ^ 112 % 2 ^ 128 / 2 ^ start) (127 - column) ≡ bit_at bits (15 - (column - start))
  stripe_inside low high =
      let here : start + (127 - column) - 112 ≡ 15 - (column - start) = omega arith in
      high_part (omega arith) ∙ ap (bit_at bits) here

  pub stripe_left : column < start → bit_at (bits * 2 ^ 112 % 2 ^ 128 / 2 ^ start) (127 - column) ≡ 0
  stripe_left out = high_part (omega arith) ∙ bit_at_above bits 16 (start + (127 - column) - 112) fits (omega arith)

  pub stripe_right : start + 16 ≤ column → bit_at (bits * 2 ^ 112 % 2 ^ 128 / 2 ^ start) (127 - column) ≡ 0
  stripe_right out = whole ∙ bit_at_cat_low bits 112 0 (start + (127 - column)) (omega arith) ∙ bit_at-zero _

-- the shift by less than 64 columns, if the bits are placed into the half in which they start
pub placed_within : (bits start : ℕ) → bits < 2 ^ 16 → start + 16 ≤ 64 → bits * 2 ^ 48 % 2 ^ 64 / 2 ^ (start % 64) * 2 ^ 64 % 2 ^ 128 ≡ bits * 2 ^ 112 % 2 ^ 128 / 2 ^ start
placed_within bits start fits left =
    let rest = 48 - start in
    let e : start % 64 ≡ start = omega arith in
    let all : 48 ≡ rest + start = omega arith in
    let more : 112 ≡ rest + 64 + start = omega arith in
    let short : bits * 2 ^ 48 ≡ bits * 2 ^ rest * 2 ^ start = ap (λ n. bits * 2 ^ n) all ∙ ap (λ n. bits * n) (pow-add 2 rest start) ∙ sym (mul_assoc bits (2 ^ rest) (2 ^ start)) in
    let long : bits * 2 ^ 112 ≡ bits * 2 ^ (rest + 64) * 2 ^ start = ap (λ n. bits * 2 ^ n) more ∙ ap (λ n. bits * n) (pow-add 2 (rest + 64) start) ∙ sym (mul_assoc bits (2 ^ (rest + 64)) (2 ^ start)) in
    ap (λ n. n / 2 ^ (start % 64) * 2 ^ 64 % 2 ^ 128) (shl_whole bits 16 48 64 fits (omega arith) ∙ short)
    ∙ ap (λ n. bits * 2 ^ rest * 2 ^ start / 2 ^ n * 2 ^ 64 % 2 ^ 128) e
    ∙ ap (λ n. n * 2 ^ 64 % 2 ^ 128) (shl-shr (bits * 2 ^ rest) start)
    ∙ ap (λ n. n % 2 ^ 128) (mul_assoc bits (2 ^ rest) (2 ^ 64) ∙ ap (λ n. bits * n) (sym (pow-add 2 rest 64)))
    ∙ shl_whole bits 16 (rest + 64) 128 fits (omega arith)
    ∙ sym (shl-shr (bits * 2 ^ (rest + 64)) start)
    ∙ ap (λ n. n / 2 ^ start) (sym long ∙ sym (shl_whole bits 16 112 128 fits (omega arith)))

pub placed_right : (bits start : ℕ) → bits < 2 ^ 16 → 64 ≤ start → start < 128 → bits * 2 ^ 48 % 2 ^ 128 / 2 ^ (start % 64) ≡ bits * 2 ^ 112 % 2 ^ 128 / 2 ^ start
placed_right bits start fits right on_screen =
    let rest = start % 64 in
    let e : 64 + rest ≡ start = omega arith in
    let whole : bits * 2 ^ 48 * 2 ^ 64 ≡ bits * 2 ^ 112 = omega arith in
    ap (λ n. n / 2 ^ rest) (shl_whole bits 16 48 128 fits (omega arith) ∙ sym (shl-shr (bits * 2 ^ 48) 64))
    ∙ shr-shr (bits * 2 ^ 48 * 2 ^ 64) 64 rest
    ∙ (λ i. whole i / 2 ^ e i)
    ∙ ap (λ n. n / 2 ^ start) (sym (shl_whole bits 16 112 128 fits (omega arith)))

-- ---- an exclusive or inverts the columns that are lit in the other row

one_or_zero : (a : ℕ) → a < 2 → (a ≡ 0) ⊎ (a ≡ 1)
one_or_zero a h = ⊎_elim (λ z. inl z) (λ n. inr (omega arith)) (cases_eq a 0)

-- a statement that is true for 0 and 1 is true for each bit
at_bits : (P : ℕ → ℕ → Type 0) → P 0 0 → P 0 1 → P 1 0 → P 1 1 → (a b : ℕ) → a < 2 → b < 2 → P a b
at_bits P z00 z01 z10 z11 a b p q =
    ⊎_elim
    (λ a0. ⊎_elim (λ b0. subst (λ y. P a y) (sym b0) (subst (λ x. P x 0) (sym a0) z00)) (λ b1. subst (λ y. P a y) (sym b1) (subst (λ x. P x 1) (sym a0) z01)) (one_or_zero b q))
    (λ a1. ⊎_elim (λ b0. subst (λ y. P a y) (sym b0) (subst (λ x. P x 0) (sym a1) z10)) (λ b1. subst (λ y. P a y) (sym b1) (subst (λ x. P x 1) (sym a1) z11)) (one_or_zero b q))
    (one_or_zero a p)

odd_sum : (a b : ℕ) → a < 2 → b < 2 → ((a + b) % 2 == 1) ≡ differ (a == 1) (b == 1)
odd_sum = at_bits (λ a b. ((a + b) % 2 == 1) ≡ differ (a == 1) (b == 1)) refl refl refl refl

both_one : (a b : ℕ) → a < 2 → b < 2 → (min a b == 1) ≡ ((a == 1) && (b == 1))
both_one = at_bits (λ a b. (min a b == 1) ≡ ((a == 1) && (b == 1))) refl refl refl refl

pub lights-bit_xor : (a b column : ℕ) → lights (bit_xor a b) column ≡ differ (lights a column) (lights b column)
lights-bit_xor a b column =
    ap (λ bit. bit == 1) (bit_at_xor a b (127 - column))
    ∙ odd_sum (bit_at a (127 - column)) (bit_at b (127 - column)) (bit_at-lt a (127 - column)) (bit_at-lt b (127 - column))

either_one : (a b : ℕ) → a < 2 → b < 2 → (max a b == 1) ≡ ((a == 1) || (b == 1))
either_one = at_bits (λ a b. (max a b == 1) ≡ ((a == 1) || (b == 1))) refl refl refl refl

lights-bit_or : (a b column : ℕ) → lights (bit_or a b) column ≡ (lights a column || lights b column)
lights-bit_or a b column =
    ap (λ bit. bit == 1) (bit_at_or a b (127 - column))
    ∙ either_one (bit_at a (127 - column)) (bit_at b (127 - column)) (bit_at-lt a (127 - column)) (bit_at-lt b (127 - column))

lights-bit_and : (a b column : ℕ) → lights (bit_and a b) column ≡ (lights a column && lights b column)
lights-bit_and a b column =
    ap (λ bit. bit == 1) (bit_at_and a b (127 - column))
    ∙ both_one (bit_at a (127 - column)) (bit_at b (127 - column)) (bit_at-lt a (127 - column)) (bit_at-lt b (127 - column))

-- ---- a row is zero if and only if no column is lit

dark_bit : (bits i : ℕ) → (bit_at bits i == 1) ≡ false → bit_at bits i ≡ 0
dark_bit bits i e = let small = bit_at-lt bits i in let not_one = eqb-false _ _ e in ⊎_elim (λ z. z) (λ one. absurd (not_one one)) (one_or_zero (bit_at bits i) small)

pub dark_row : (bits : ℕ) → bits < 2 ^ 128 → ((column : ℕ) → column < 128 → lights bits column ≡ false) → bits ≡ 0
dark_row bits fits dark =
    same_from_bits_below 128 bits 0 fits (pow_pos 128) (λ i h.
    let back : 127 - (127 - i) ≡ i = omega arith in
    dark_bit bits i (ap (λ k. bit_at bits k == 1) (sym back) ∙ dark (127 - i) (omega arith)) ∙ sym (bit_at-zero i))

some_lit : (bits : ℕ) → bits < 2 ^ 128 → not (nat_eq bits 0) ≡ any_below (lights bits) 128
some_lit bits fits =
    ⊎_elim
    (λ (yes : any_below (lights bits) 128 ≡ true). ap not (ne_eqb bits 0 (λ zero_bits. false≢true (sym (any_below_none (lights bits) 128 (λ column h. ap (λ n. lights n column) zero_bits ∙ ap (λ bit. bit == 1) (bit_at-zero (127 - column)))) ∙ yes))) ∙ sym yes)
    (λ (no : any_below (lights bits) 128 ≡ false). ap not (eq-eqb bits 0 (dark_row bits fits (any_below-false (lights bits) 128 no))) ∙ sym no)
    (cases_Bool (any_below (lights bits) 128))

-- the mask of two rows is nonzero if and only if the rows light a common column
pub common_column : (a b : ℕ) → b < 2 ^ 128 → not (nat_eq (bit_and a b) 0) ≡ any_below (λ column. lights a column && lights b column) 128
common_column a b fits =
    some_lit (bit_and a b) (omega (arith, and_le_r a b))
    ∙ any_below_same (lights (bit_and a b)) (λ column. lights a column && lights b column) 128 (λ column h. lights-bit_and a b column)

-- the union of two rows is nonzero if and only if one of the rows is nonzero
pub either_some : (a b : ℕ) → not (nat_eq (bit_or a b) 0) ≡ (not (nat_eq a 0) || not (nat_eq b 0))
either_some a b =
    ⊎_elim
    (λ (zero_a : a ≡ 0).
    ap (λ n. not (nat_eq (bit_or n b) 0)) zero_a ∙ ap (λ n. not (nat_eq n 0)) (or_zero_l b)
    ∙ ap (λ dark. not dark || not (nat_eq b 0)) (sym (eq-eqb a 0 zero_a)))
    (λ (some_a : a ≢ 0).
    ap not (ne_eqb (bit_or a b) 0 (λ none. some_a (omega (arith, none, le_or_l a b))))
    ∙ ap (λ dark. not dark || not (nat_eq b 0)) (sym (ne_eqb a 0 some_a)))
    (cases_eq a 0)

-- ---- a shift by whole columns

-- a shift to the right, as `>> n`
pub lights_shr : (bits n column : ℕ) → bits < 2 ^ 128 → n ≤ 128 → column < 128 → lights (bits / 2 ^ n) column ≡ (nat_le n column && lights bits (column - n))
lights_shr bits n column fits small on_screen =
    ⊎_elim
    (λ (out : column < n). ap (λ bit. bit == 1) (shifted ∙ bit_at_above bits 128 (n + (127 - column)) fits (omega arith)) ∙ sym (and_left _ _ (lt-leb n column out)))
    (λ (kept : n ≤ column).
    let here : n + (127 - column) ≡ 127 - (column - n) = omega arith in
    ap (λ bit. bit == 1) (shifted ∙ ap (bit_at bits) here) ∙ ap (λ b. b && lights bits (column - n)) (sym (le-leb n column kept)))
    (cases_lt column n)
  where
    shifted : bit_at (bits / 2 ^ n) (127 - column) ≡ bit_at bits (n + (127 - column))
    shifted = ap (λ m. m % 2) (shr-shr bits n (127 - column))

-- a shift to the left, as `<< n`
low_bit : (n w i : ℕ) → i < w → bit_at (n % 2 ^ w) i ≡ bit_at n i
low_bit n w i h = sym (bit_at_cat_low (n / 2 ^ w) w (n % 2 ^ w) i h) ∙ ap (λ m. bit_at m i) (shr_split n w)

module _ (bits n column : ℕ) (on_screen : column < 128) where
  low_part : bit_at (bits * 2 ^ n % 2 ^ 128) (127 - column) ≡ bit_at (bits * 2 ^ n + 0) (127 - column)
  low_part = low_bit (bits * 2 ^ n) 128 (127 - column) (omega arith) ∙ ap (λ m. bit_at m (127 - column)) (sym (add-zero (bits * 2 ^ n)))

  pub lights_shl : column + n < 128 → lights (bits * 2 ^ n % 2 ^ 128) column ≡ lights bits (column + n)
  lights_shl kept =
      let here : 127 - column - n ≡ 127 - (column + n) = omega arith in
      ap (λ bit. bit == 1) (low_part ∙ bit_at_cat_high bits n 0 (127 - column) (pow_pos n) (omega arith) ∙ ap (bit_at bits) here)

  pub lights_shl_out : 128 ≤ column + n → lights (bits * 2 ^ n % 2 ^ 128) column ≡ false
  lights_shl_out out = ap (λ bit. bit == 1) (low_part ∙ bit_at_cat_low bits n 0 (127 - column) (omega arith) ∙ bit_at-zero _)

-- ---- a move to the right by `start`, in which the columns that leave re-enter at the left

same_or : (b : Bool) → (b || b) ≡ b
same_or true = refl
same_or false = refl

pub lights_around : (bits start column : ℕ) → bits < 2 ^ 128 → start < 128 → column < 128
    → lights (bit_or (bits / 2 ^ start) (bits * 2 ^ ((128 - start) % 128) % 2 ^ 128)) column ≡ lights bits ((column + 128 - start) % 128)
lights_around bits start column fits inside on_screen =
    lights-bit_or _ _ column
    ∙ ap (λ b. b || lights (bits * 2 ^ ((128 - start) % 128) % 2 ^ 128) column) (lights_shr bits start column fits (omega arith) on_screen)
    ∙ ⊎_elim
    (λ (out : column < start).
    let by : (128 - start) % 128 ≡ 128 - start = omega arith in
    let here : column + (128 - start) ≡ (column + 128 - start) % 128 = omega arith in
    ap (λ b. b && lights bits (column - start) || lights (bits * 2 ^ ((128 - start) % 128) % 2 ^ 128) column) (lt-leb start column out)
    ∙ ap (λ n. lights (bits * 2 ^ n % 2 ^ 128) column) by ∙ lights_shl bits (128 - start) column on_screen (omega arith) ∙ ap (lights bits) here)
    (λ (kept : start ≤ column).
    let here : column - start ≡ (column + 128 - start) % 128 = omega arith in
    ap (λ b. b && lights bits (column - start) || lights (bits * 2 ^ ((128 - start) % 128) % 2 ^ 128) column) (le-leb start column kept)
    ∙ ⊎_elim
    (λ (still : start ≡ 0).
    let by : (128 - start) % 128 ≡ 0 = omega arith in
    let same : column + 0 ≡ column - start = omega arith in
    ap (λ n. lights bits (column - start) || lights (bits * 2 ^ n % 2 ^ 128) column) by
    ∙ ap (λ b. lights bits (column - start) || b) (lights_shl bits 0 column on_screen (omega arith) ∙ ap (lights bits) same)
    ∙ same_or (lights bits (column - start)))
    (λ (some : start ≢ 0).
    let by : (128 - start) % 128 ≡ 128 - start = omega arith in
    ap (λ n. lights bits (column - start) || lights (bits * 2 ^ n % 2 ^ 128) column) by
    ∙ ap (λ b. lights bits (column - start) || b) (lights_shl_out bits (128 - start) column on_screen (omega arith))
    ∙ or-false (lights bits (column - start)))
    (cases_eq start 0)
    ∙ ap (lights bits) here)
    (cases_lt column start)
