-- The bits that a sprite covers in a line, if it may wrap or have wide rows in the low size.
use Rattle.std.proofs.Common.{◌≡◌, ℕ, ◌+◌, ◌-◌, ◌*◌, ◌/◌, ◌%◌, ◌^◌, ◌<◌, ◌≤◌, Bool, true, false, ◌&&◌, ◌==◌, nat_eq, nat_le, length, List, get_or, refl, sym, ap, subst, ◌∙◌, arith, add-zero, bit_or, ⊎_elim}
use Rattle.std.specs.Int.{bit_at}
use Rattle.std.proofs.lemmas.Bool.{cases_lt, and_left, and_right, lt-leb, le-leb, cond_both, cond-true, cond-false, eq-eqb, ne_eqb}
use Rattle.std.proofs.lemmas.Nat.{shl_whole, or_shifted, pow_pos}
use Rattle.std.proofs.lemmas.Nat.Bits.{bit_at-zero, bit_at_cat_low, bit_at_cat_high}
use Rattle.chip_machine.specs.Points.{lights}
use Rattle.chip_machine.specs.Sprite.{clipped_over, is_set, scale, wrapped_over}
use Rattle.chip_machine.specs.inner.SpriteBytes.{covers, sprite_row_bytes}
use Rattle.chip_machine.proofs.BitLemmas.{lights_shl, lights_shl_out, lights_shr}
use Rattle.chip_machine.proofs.RowLemmas.{IsPattern, point_at}
use Rattle.chip_machine.proofs.SpriteLemmas.{at_scale, before_pixel, from_pixel, is_set_right, line_of, row_bytes-clipped}

-- the 32 bits of one row of the sprite
abbrev pub IsWidePattern : ℕ → Bool → List ℕ → ℕ → Type 0
IsWidePattern bits high sprite j = (i : ℕ) → i < 32 → (bit_at bits (31 - i) == 1) ≡ is_set (sprite_row_bytes sprite) sprite (i / scale high) j

row_bytes_few : (sprite : List ℕ) → sprite_row_bytes sprite ≤ 2
unfolding sprite_row_bytes
row_bytes_few sprite = cond_both (nat_eq (length sprite) 32) 2 1 (λ n. n ≤ 2) (λ _. omega arith) (λ _. omega arith)

row_bytes-narrow : (sprite : List ℕ) → (length sprite ≡ 32 → ⊥) → sprite_row_bytes sprite ≡ 1
unfolding sprite_row_bytes
row_bytes-narrow sprite h = cond-false (nat_eq (length sprite) 32) 2 1 (ne_eqb (length sprite) 32 h)

row_bytes-wide : (sprite : List ℕ) → length sprite ≡ 32 → sprite_row_bytes sprite ≡ 2
unfolding sprite_row_bytes
row_bytes-wide sprite h = cond-true (nat_eq (length sprite) 32) 2 1 (eq-eqb (length sprite) 32 h)

-- ---- a row of the sprite as 32 bits

past_narrow : (high : Bool) (sprite : List ℕ) (i : ℕ) → (high ≡ false → length sprite ≡ 32 → ⊥) → 16 ≤ i → 8 * sprite_row_bytes sprite ≤ i / scale high
past_narrow true sprite i narrow far = let few = row_bytes_few sprite in omega arith
past_narrow false sprite i narrow far = let one = row_bytes-narrow sprite (narrow refl) in omega arith

past_wide : (high : Bool) (sprite : List ℕ) (i : ℕ) → 32 ≤ i → 8 * sprite_row_bytes sprite ≤ i / scale high
past_wide true sprite i far = let few = row_bytes_few sprite in omega arith
past_wide false sprite i far = let few = row_bytes_few sprite in omega arith

module _ (high : Bool) (sprite : List ℕ) (j : ℕ) where
  pub pattern_put : (bits : ℕ) → bits < 2 ^ 16 → (high ≡ false → length sprite ≡ 32 → ⊥) → IsPattern bits high sprite j → IsWidePattern (bits * 2 ^ 16 % 2 ^ 32) high sprite j
  pattern_put bits fits narrow pattern i within =
      ap (λ n. bit_at n (31 - i) == 1) (shl_whole bits 16 16 32 fits (omega arith) ∙ sym (add-zero (bits * 2 ^ 16)))
      ∙ ⊎_elim
      (λ (left : i < 16).
      let here : 31 - i - 16 ≡ 15 - i = omega arith in
      ap (λ bit. bit == 1) (bit_at_cat_high bits 16 0 (31 - i) (pow_pos 16) (omega arith) ∙ ap (bit_at bits) here)
      ∙ pattern i left ∙ ap (λ w. is_set w sprite (i / scale high) j) (row_bytes-clipped high sprite narrow))
      (λ (right : 16 ≤ i).
      ap (λ bit. bit == 1) (bit_at_cat_low bits 16 0 (31 - i) (omega arith) ∙ bit_at-zero (31 - i))
      ∙ sym (is_set_right (sprite_row_bytes sprite) sprite (i / scale high) j (past_narrow high sprite i narrow right)))
      (cases_lt i 16)

  pub pattern_twice : (first second left right : ℕ) → high ≡ false → length sprite ≡ 32 → first < 2 ^ 16 → second < 2 ^ 16
      → ((k : ℕ) → k < 16 → bit_at first k ≡ bit_at left (k / 2)) → ((k : ℕ) → k < 16 → bit_at second k ≡ bit_at right (k / 2))
      → left ≡ get_or sprite (2 * j) 0 → right ≡ get_or sprite (2 * j + 1) 0 → IsWidePattern (bit_or (first * 2 ^ 16 % 2 ^ 32) second) high sprite j
  pattern_twice first second left right low long fits small twice again read_left read_right =
      subst (λ h. IsWidePattern (bit_or (first * 2 ^ 16 % 2 ^ 32) second) h sprite j) (sym low) (λ i within.
      ap (λ n. bit_at (bit_or n second) (31 - i) == 1) (shl_whole first 16 16 32 fits (omega arith))
      ∙ ap (λ n. bit_at n (31 - i) == 1) (or_shifted first 16 second small)
      ∙ ⊎_elim
      (λ (near : i < 16).
      let here : 31 - i - 16 ≡ 15 - i = omega arith in
      ap (λ bit. bit == 1) (bit_at_cat_high first 16 second (31 - i) small (omega arith) ∙ ap (bit_at first) here ∙ twice (15 - i) (omega arith))
      ∙ ap (λ b. bit_at b ((15 - i) / 2) == 1) read_left
      ∙ point_at 2 sprite (i / 2) j (2 * j) ((15 - i) / 2) (omega arith) (omega arith) (omega arith))
      (λ (far : 16 ≤ i).
      ap (λ bit. bit == 1) (bit_at_cat_low first 16 second (31 - i) (omega arith) ∙ again (31 - i) (omega arith))
      ∙ ap (λ b. bit_at b ((31 - i) / 2) == 1) read_right
      ∙ point_at 2 sprite (i / 2) j (2 * j + 1) ((31 - i) / 2) (omega arith) (omega arith) (omega arith))
      (cases_lt i 16)
      ∙ ap (λ w. is_set w sprite (i / 2) j) (sym (row_bytes-wide sprite long)))

  -- the columns that start with these bits
  pub row_lights : (bits : ℕ) → IsWidePattern bits high sprite j → (column : ℕ) → column < 128
      → lights (bits * 2 ^ 96 % 2 ^ 128) column ≡ is_set (sprite_row_bytes sprite) sprite (column / scale high) j
  row_lights bits pattern column on_screen = ⊎_elim
      (λ (near : column < 32).
      let here : 127 - (column + 96) ≡ 31 - column = omega arith in
      lights_shl bits 96 column on_screen (omega arith) ∙ ap (λ k. bit_at bits k == 1) here ∙ pattern column near)
      (λ (far : 32 ≤ column).
      lights_shl_out bits 96 column on_screen (omega arith)
      ∙ sym (is_set_right (sprite_row_bytes sprite) sprite (column / scale high) j (past_wide high sprite column far)))
      (cases_lt column 32)

-- ---- the place of a row of the sprite

-- the placed columns light a row of a sprite
abbrev pub LightsRow : ℕ → Bool → List ℕ → ℕ → Type 0
LightsRow bits high sprite j = (column : ℕ) → column < 128 → lights bits column ≡ is_set (sprite_row_bytes sprite) sprite (column / scale high) j

module _ (x y : ℕ) (sprite : List ℕ) (bits column at line : ℕ) (on_screen : column < 128) where
  wrapped_by : (high : Bool) → LightsRow bits high sprite ((line + 64 / scale high - y % (64 / scale high)) % (64 / scale high))
      → scale high * line ≤ at → at < scale high * line + scale high
      → lights bits ((column + 128 - scale high * (x % (128 / scale high))) % 128) ≡ wrapped_over high x y (sprite_row_bytes sprite) sprite column at
  unfolding wrapped_over
  wrapped_by high row low up =
      let s = scale high in
      let across = at_scale (λ s _. (column + 128 - s * (x % (128 / s))) % 128 / s ≡ (column / s + 128 / s - x % (128 / s)) % (128 / s)) (omega arith) (omega arith) high s refl in
      row _ (omega arith) ∙ (λ i. is_set (sprite_row_bytes sprite) sprite (across i) ((sym (line_of high line at low up) i + 64 / s - y % (64 / s)) % (64 / s)))

  clipped_by : (high : Bool) → bits < 2 ^ 128 → LightsRow bits high sprite (line - y % (64 / scale high)) → y % (64 / scale high) ≤ line
      → scale high * line ≤ at → at < scale high * line + scale high
      → lights (bits / 2 ^ (scale high * (x % (128 / scale high)))) column ≡ clipped_over high x y (sprite_row_bytes sprite) sprite column at
  unfolding clipped_over
  clipped_by high fits row below low up =
      let s = scale high in
      let left = x % (128 / s) in
      let top = y % (64 / s) in
      let here : at / s ≡ line = line_of high line at low up in
      let down : top ≤ at / s = omega (arith, here, below) in
      lights_shr bits (s * left) column fits (at_scale (λ s _. s * (x % (128 / s)) ≤ 128) (omega arith) (omega arith) high s refl) on_screen ∙ ⊎_elim
      (λ (out : column < s * left).
      and_left _ _ (lt-leb (s * left) column out) ∙ sym (and_left _ _ (and_left _ _ (lt-leb left (column / s) (before_pixel high s left column refl out)))))
      (λ (kept : s * left ≤ column).
      let inside = from_pixel high s left column refl kept in
      ap (λ b. b && lights bits (column - s * left)) (le-leb (s * left) column kept)
      ∙ row _ (omega arith) ∙ (λ i. is_set (sprite_row_bytes sprite) sprite (inside.1 i) (sym here i - top))
      ∙ (λ i. sym (le-leb left (column / s) inside.0) i && sym (le-leb top (at / s) down) i && is_set (sprite_row_bytes sprite) sprite (column / s - left) (at / s - top)))
      (cases_lt column (s * left))

  above_by : (high : Bool) → line < y % (64 / scale high) → at < scale high * line + scale high
      → lights 0 column ≡ clipped_over high x y (sprite_row_bytes sprite) sprite column at
  unfolding clipped_over
  above_by high out up =
      let s = scale high in
      let above = at_scale (λ s _. line < y % (64 / s) → at < s * line + s → at / s < y % (64 / s)) (λ out up. omega arith) (λ out up. omega arith) high s refl out up in
      ap (λ bit. bit == 1) (bit_at-zero (127 - column)) ∙ sym (and_left _ _ (and_right (nat_le (x % (128 / s)) (column / s)) _ (lt-leb (y % (64 / s)) (at / s) above)))

  module _ (wraps high : Bool) (s : ℕ) (e : s ≡ scale high) (low : scale high * line ≤ at) (up : at < scale high * line + scale high) where
    pub stripe_around : (stripe : ℕ) → wraps ≡ true → LightsRow bits high sprite ((line + 64 / s - y % (64 / s)) % (64 / s))
        → lights stripe column ≡ lights bits ((column + 128 - s * (x % (128 / s))) % 128) → lights stripe column ≡ covers wraps high x y sprite column at
    stripe_around stripe wrapped row is =
        is ∙ ap (λ (s : ℕ). lights bits ((column + 128 - s * (x % (128 / s))) % 128)) e
        ∙ wrapped_by high (subst (λ (s : ℕ). LightsRow bits high sprite ((line + 64 / s - y % (64 / s)) % (64 / s))) e row) low up
        ∙ ap (λ (w : Bool). covers w high x y sprite column at) (sym wrapped)

    pub stripe_above : wraps ≡ false → line < y % (64 / s) → lights 0 column ≡ covers wraps high x y sprite column at
    stripe_above clipped out =
        above_by high (subst (λ (s : ℕ). line < y % (64 / s)) e out) up ∙ ap (λ (w : Bool). covers w high x y sprite column at) (sym clipped)

    pub stripe_inside : wraps ≡ false → bits < 2 ^ 128 → y % (64 / s) ≤ line → LightsRow bits high sprite (line - y % (64 / s))
        → lights (bits / 2 ^ (s * (x % (128 / s)))) column ≡ covers wraps high x y sprite column at
    stripe_inside clipped fits below row =
        ap (λ (s : ℕ). lights (bits / 2 ^ (s * (x % (128 / s)))) column) e
        ∙ clipped_by high fits (subst (λ (s : ℕ). LightsRow bits high sprite (line - y % (64 / s))) e row) (subst (λ (s : ℕ). y % (64 / s) ≤ line) e below) low up
        ∙ ap (λ (w : Bool). covers w high x y sprite column at) (sym clipped)
