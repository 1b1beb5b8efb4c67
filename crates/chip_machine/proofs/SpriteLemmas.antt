-- The points that a sprite covers, as the code computes them.
use Rattle.std.proofs.Common.{◌≡◌, ℕ, ◌+◌, ◌-◌, ◌*◌, ◌/◌, ◌%◌, ◌<◌, ◌≤◌, Bool, true, false, not, ◌&&◌, ◌||◌, ◌==◌, nat_eq, nat_lt, nat_le, min, List, length, get_or, refl, sym, ap, subst, ◌∙◌, arith, ◌≢◌, ⊎_elim}
use Rattle.std.specs.Int.{bit_at}
use Rattle.std.proofs.lemmas.Bool.{false≢true, cond-true, cond-false, cases_eq, eq-eqb, ne_eqb, le-ltb, lt-ltb, le-leb, lt-leb, and_left, and_right}
use Rattle.std.proofs.lemmas.Nat.Bits.{bit_at-zero}
use Rattle.std.proofs.lemmas.List.{get_or_past}
use Rattle.std.proofs.Math.Nat.{mul-le-mul_right, mul_comm}
use Rattle.chip_machine.specs.Sprite.{clipped_over, is_set, row_bytes, scale, sprite_bytes}
use Rattle.chip_machine.specs.inner.SpriteBytes.{covers, covers_by_length, row_bytes_by_length, sprite_row_bytes}

pub is_set-inside : (w : ℕ) (sprite : List ℕ) (i j : ℕ) → i < 8 * w → is_set w sprite i j ≡ (bit_at (get_or sprite (w * j + i / 8) 0) (7 - i % 8) == 1)
unfolding is_set
is_set-inside w sprite i j h = ap (λ b. b && (bit_at (get_or sprite (w * j + i / 8) 0) (7 - i % 8) == 1)) (lt-ltb i (8 * w) h)

pub is_set_right : (w : ℕ) (sprite : List ℕ) (i j : ℕ) → 8 * w ≤ i → is_set w sprite i j ≡ false
unfolding is_set
is_set_right w sprite i j h = ap (λ b. b && (bit_at (get_or sprite (w * j + i / 8) 0) (7 - i % 8) == 1)) (le-ltb i (8 * w) h)

-- a sprite has no pixel past its last byte
pub is_set_past : (w : ℕ) (sprite : List ℕ) (i j : ℕ) → length sprite ≤ w * j + i / 8 → is_set w sprite i j ≡ false
unfolding is_set
is_set_past w sprite i j h =
    ap (λ byte. nat_lt i (8 * w) && (bit_at byte (7 - i % 8) == 1)) (get_or_past sprite (w * j + i / 8) 0 h)
    ∙ ap (λ bit. nat_lt i (8 * w) && (bit == 1)) (bit_at-zero (7 - i % 8))
    ∙ and_right (nat_lt i (8 * w)) false refl

-- a sprite of n rows has no pixel past its last row
pub is_set_below : (w n : ℕ) (sprite : List ℕ) (i j : ℕ) → length sprite ≤ w * n → n ≤ j → is_set w sprite i j ≡ false
is_set_below w n sprite i j few h =
    let along : n * w ≤ j * w = mul-le-mul_right w h in
    is_set_past w sprite i j (omega (arith, along, few, mul_comm w n, mul_comm w j))

-- two cases: a pixel is one stored pixel, or two by two stored pixels
pub at_scale : (P : (scaled s : ℕ) → Type 0) → P 1 1 → P 2 2 → (high : Bool) (s : ℕ) → s ≡ scale high → P (scale high) s
at_scale P one two true s e = subst (P 1) (sym e) one
at_scale P one two false s e = subst (P 2) (sym e) two

-- a stored column or row that lies before those of a pixel, or doesn't
pub before_pixel : (high : Bool) (s n k : ℕ) → s ≡ scale high → k < s * n → k / s < n
before_pixel high s n k e = at_scale (λ _ s. k < s * n → k / s < n) (λ low. omega arith) (λ low. omega arith) high s e

pub from_pixel : (high : Bool) (s n k : ℕ) → s ≡ scale high → s * n ≤ k → (n ≤ k / s) × ((k - s * n) / s ≡ k / s - n)
from_pixel high s n k e = at_scale (λ _ s. s * n ≤ k → (n ≤ k / s) × ((k - s * n) / s ≡ k / s - n)) (λ up. (omega arith, omega arith)) (λ up. (omega arith, omega arith)) high s e

-- a test with three parts, two of which are known
three_tests : (a b c : Bool) → a ≡ true → b ≡ true → (a && b && c) ≡ c
three_tests a b c p q = λ i. p i && q i && c

module _ (high : Bool) (x y : ℕ) (sprite : List ℕ) (column row : ℕ) where
  pub covers-inside : (s : ℕ) → s ≡ scale high → x % (128 / s) ≤ column / s → y % (64 / s) ≤ row / s
      → is_set (row_bytes_by_length high sprite) sprite (column / s - x % (128 / s)) (row / s - y % (64 / s)) ≡ covers_by_length high x y sprite column row
  unfolding clipped_over
  covers-inside s e left top =
      sym (three_tests _ _ (is_set (row_bytes_by_length high sprite) sprite (column / s - x % (128 / s)) (row / s - y % (64 / s))) (le-leb (x % (128 / s)) (column / s) left) (le-leb (y % (64 / s)) (row / s) top))
      ∙ ap (λ s. nat_le (x % (128 / s)) (column / s) && nat_le (y % (64 / s)) (row / s) && is_set (row_bytes_by_length high sprite) sprite (column / s - x % (128 / s)) (row / s - y % (64 / s))) e

  pub covers_left : (s : ℕ) → s ≡ scale high → column / s < x % (128 / s) → covers_by_length high x y sprite column row ≡ false
  unfolding clipped_over
  covers_left s e out =
      ap (λ s. nat_le (x % (128 / s)) (column / s) && nat_le (y % (64 / s)) (row / s) && is_set (row_bytes_by_length high sprite) sprite (column / s - x % (128 / s)) (row / s - y % (64 / s))) (sym e)
      ∙ and_left _ _ (and_left _ _ (lt-leb (x % (128 / s)) (column / s) out))

  -- rows below the last row of the sprite
  pub covers_below : (s n : ℕ) → s ≡ scale high → length sprite ≤ row_bytes_by_length high sprite * n → n ≤ row / s - y % (64 / s) → covers_by_length high x y sprite column row ≡ false
  unfolding clipped_over
  covers_below s n e few past =
      ap (λ s. nat_le (x % (128 / s)) (column / s) && nat_le (y % (64 / s)) (row / s) && is_set (row_bytes_by_length high sprite) sprite (column / s - x % (128 / s)) (row / s - y % (64 / s))) (sym e)
      ∙ and_right (nat_le (x % (128 / s)) (column / s) && nat_le (y % (64 / s)) (row / s)) _ (is_set_below (row_bytes_by_length high sprite) n sprite (column / s - x % (128 / s)) (row / s - y % (64 / s)) few past)

  pub covers_above : (s : ℕ) → s ≡ scale high → row / s < y % (64 / s) → covers_by_length high x y sprite column row ≡ false
  unfolding clipped_over
  covers_above s e out =
      ap (λ s. nat_le (x % (128 / s)) (column / s) && nat_le (y % (64 / s)) (row / s) && is_set (row_bytes_by_length high sprite) sprite (column / s - x % (128 / s)) (row / s - y % (64 / s))) (sym e)
      ∙ and_left _ _ (and_right (nat_le (x % (128 / s)) (column / s)) _ (lt-leb (y % (64 / s)) (row / s) out))

-- no pixel above the first line of a sprite is covered
pub covers_before : (high : Bool) (x y : ℕ) (sprite : List ℕ) (column row : ℕ) → row < scale high * (y % (64 / scale high)) → covers_by_length high x y sprite column row ≡ false
covers_before high x y sprite column row before = covers_above high x y sprite column row (scale high) refl (before_pixel high (scale high) _ row refl before)

-- nothing is covered at or after the line where the n rows of the sprite or the screen end
pub covers_after : (high : Bool) (x y : ℕ) (sprite : List ℕ) (column row count n s : ℕ) → row < 64 → length sprite ≤ row_bytes_by_length high sprite * n → s ≡ scale high → count ≡ min n (64 / s - y % (64 / s)) → scale high * (y % (64 / s) + count) ≤ row → covers_by_length high x y sprite column row ≡ false
covers_after high x y sprite column row count n s on_screen few scaled e after =
    covers_below high x y sprite column row (scale high) n refl few
    (at_scale (λ h s. count ≡ min n (64 / s - y % (64 / s)) → h * (y % (64 / s) + count) ≤ row → n ≤ row / h - y % (64 / h))
    (λ e after. omega (arith, e, after)) (λ e after. omega (arith, e, after)) high s scaled e after)

pub lines_on_screen : (high : Bool) (y count n s : ℕ) → s ≡ scale high → count ≡ min n (64 / s - y % (64 / s)) → scale high * (y % (64 / s) + count) ≤ 64
lines_on_screen high y count n s scaled e =
    at_scale (λ h s. count ≡ min n (64 / s - y % (64 / s)) → h * (y % (64 / s) + count) ≤ 64) (λ e. omega (arith, e)) (λ e. omega (arith, e)) high s scaled e

-- the line that contains a row
pub line_of : (high : Bool) (line row : ℕ) → scale high * line ≤ row → row < scale high * line + scale high → row / scale high ≡ line
line_of true line row low up = omega arith
line_of false line row low up = omega arith

pub scale_step : (high : Bool) (line : ℕ) → scale high * (line + 1) ≡ scale high * line + scale high
scale_step true line = omega arith
scale_step false line = omega arith

-- all lines fill the screen
pub lines_fill : (high : Bool) (s : ℕ) → s ≡ scale high → s * (64 / s) ≡ 64
lines_fill true s e = ap (λ (s : ℕ). s * (64 / s)) e
lines_fill false s e = ap (λ (s : ℕ). s * (64 / s)) e

-- the length of a sprite of n rows determines the number of bytes per row
pub row_bytes_by_rows : (wide : Bool) (n : ℕ) (sprite : List ℕ) → n < 16 → length sprite ≡ sprite_bytes wide n → sprite_row_bytes sprite ≡ row_bytes wide n
unfolding row_bytes sprite_row_bytes
row_bytes_by_rows false n sprite small size =
    cond-false (nat_eq (length sprite) 32) 2 1 (ne_eqb (length sprite) 32 (λ (long : length sprite ≡ 32).
    ⊎_elim
    (λ (zero : n ≡ 0). let short : length sprite ≡ 16 = size ∙ cond-true (nat_eq n 0) 16 n (eq-eqb n 0 zero) in absurd (omega (arith, long, short)))
    (λ (some : n ≢ 0). let short : length sprite ≡ n = size ∙ cond-false (nat_eq n 0) 16 n (ne_eqb n 0 some) in absurd (omega (arith, long, short)))
    (cases_eq n 0)))
row_bytes_by_rows true n sprite small size =
    ⊎_elim
    (λ (zero : n ≡ 0).
    let long : length sprite ≡ 32 = size ∙ cond-true (nat_eq n 0) 32 n (eq-eqb n 0 zero) in
    cond-true (nat_eq (length sprite) 32) 2 1 (eq-eqb (length sprite) 32 long) ∙ sym (cond-true (nat_eq n 0) 2 1 (eq-eqb n 0 zero)))
    (λ (some : n ≢ 0).
    let long : length sprite ≡ n = size ∙ cond-false (nat_eq n 0) 32 n (ne_eqb n 0 some) in
    cond-false (nat_eq (length sprite) 32) 2 1 (ne_eqb (length sprite) 32 (λ (e : length sprite ≡ 32). omega arith)) ∙ sym (cond-false (nat_eq n 0) 2 1 (ne_eqb n 0 some)))
    (cases_eq n 0)

-- the loop for clipped sprites uses the right number of bytes per row, unless the sprite has wide rows
-- in the low size
pub row_bytes-clipped : (high : Bool) (sprite : List ℕ) → (high ≡ false → length sprite ≡ 32 → ⊥) → row_bytes_by_length high sprite ≡ sprite_row_bytes sprite
unfolding row_bytes_by_length sprite_row_bytes
row_bytes-clipped true sprite narrow = refl
row_bytes-clipped false sprite narrow = sym (cond-false (nat_eq (length sprite) 32) 2 1 (ne_eqb (length sprite) 32 (narrow refl)))

-- the pixels that the loop for clipped sprites draws
pub covers-clipped : (wraps high : Bool) (x y : ℕ) (sprite : List ℕ) → (not wraps && (not (length sprite == 32) || high)) ≡ true → covers_by_length high x y sprite ≡ covers wraps high x y sprite
covers-clipped true high x y sprite h = absurd (false≢true h)
covers-clipped false true x y sprite h =
    ap (λ (w : ℕ). clipped_over true x y w sprite) (row_bytes-clipped true sprite (λ low. absurd (false≢true (sym low))))
covers-clipped false false x y sprite h =
    ap (λ (w : ℕ). clipped_over false x y w sprite) (row_bytes-clipped false sprite (λ low long. false≢true (sym (ap (λ (b : Bool). not b || false) (eq-eqb (length sprite) 32 long)) ∙ h)))
