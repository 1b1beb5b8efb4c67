-- 64 rows of bits as the pixels of the screen, and the bits that a sprite covers.
use Rattle.std.proofs.Common.{◌≡◌, ℕ, ◌+◌, ◌-◌, ◌*◌, ◌/◌, ◌%◌, ◌^◌, ◌<◌, ◌≤◌, Bool, true, false, not, ◌&&◌, ◌||◌, ◌==◌, nat_eq, nat_le, length, List, get_or, refl, sym, ap, subst, ◌∙◌, arith, add-zero, bit_and, bit_or, set, get_or-set_same, get_or-set_other, ⊎_elim}
use Rattle.std.proofs.Math.Bool.{or-false}
use Rattle.std.specs.Int.{bit_at}
use Rattle.std.specs.Prelude.{bit_xor}
use Rattle.std.proofs.lemmas.Bool.{cases_lt, and_left, and_right, lt-leb, le-leb, cond_both, cond-true, cond-false, eq-eqb, ne_eqb}
use Rattle.std.proofs.lemmas.Nat.{shl_whole, or_shifted, pow_pos}
use Rattle.std.proofs.lemmas.Nat.Bits.{bit_at-zero, bit_at_cat_low, bit_at_cat_high}
use Rattle.chip_machine.specs.Scroll.{scrolled_down, scrolled_right, scrolled_left}
use Rattle.chip_machine.specs.Points.{points_where, symmetric_difference, meets, lights}
use Rattle.chip_machine.specs.inner.Stored.{in_rows, differ, any_below, AreTurned}
use Rattle.chip_machine.specs.Sprite.{is_set, scale}
use Rattle.chip_machine.specs.inner.SpriteBytes.{covers_by_length, row_bytes_by_length}
use Rattle.chip_machine.proofs.PointLemmas.{toggled_where, meets_where, any_below-false, any_below_first, any_below_longer, any_below_more, any_below_none, any_below_same, scrolled_down_where, scrolled_right_where, scrolled_left_where}
use Rattle.chip_machine.proofs.SpriteLemmas.{before_pixel, covers-inside, covers_left, from_pixel, is_set_right, is_set-inside}
use Rattle.chip_machine.proofs.BitLemmas.{common_column, either_some, lights-bit_xor, lights_shr, lights_shl, lights_shl_out, stripe_inside, stripe_left, stripe_right}

pub row_bytes_few : (high : Bool) (sprite : List ℕ) → row_bytes_by_length high sprite ≤ 2
unfolding row_bytes_by_length
row_bytes_few true sprite = cond_both (nat_eq (length sprite) 32) 2 1 (λ n. n ≤ 2) (λ _. omega arith) (λ _. omega arith)
row_bytes_few false sprite = omega arith

pub row_bytes-low : (sprite : List ℕ) → row_bytes_by_length false sprite ≡ 1
unfolding row_bytes_by_length
row_bytes-low sprite = refl

-- the sixteen bits of one row of the sprite
abbrev pub IsPattern : ℕ → Bool → List ℕ → ℕ → Type 0
IsPattern bits high sprite j = (i : ℕ) → i < 16 → (bit_at bits (15 - i) == 1) ≡ is_set (row_bytes_by_length high sprite) sprite (i / scale high) j

-- a row of the sprite has no bits past its sixteen bits
past_columns : (high : Bool) (sprite : List ℕ) (s left column : ℕ) → s ≡ scale high → s * left + 16 ≤ column → 8 * row_bytes_by_length high sprite ≤ column / s - left
past_columns true sprite s left column e =
    let few = row_bytes_few true sprite in subst (λ (s : ℕ). s * left + 16 ≤ column → 8 * row_bytes_by_length true sprite ≤ column / s - left) (sym e) (λ far. omega arith)
past_columns false sprite s left column e =
    let one = row_bytes-low sprite in subst (λ (s : ℕ). s * left + 16 ≤ column → 8 * row_bytes_by_length false sprite ≤ column / s - left) (sym e) (λ far. omega arith)

-- the bits of a row of the sprite, shifted to its start, light the columns that the row covers
pub lights_covered : (high : Bool) (x y : ℕ) (sprite : List ℕ) (bits column row s : ℕ) → bits < 2 ^ 16 → column < 128 → s ≡ scale high → y % (64 / s) ≤ row / s → IsPattern bits high sprite (row / s - y % (64 / s))
    → lights (bits * 2 ^ 112 % 2 ^ 128 / 2 ^ (s * (x % (128 / s)))) column ≡ covers_by_length high x y sprite column row
lights_covered high x y sprite bits column row s fits on_screen e below pattern =
    let left = x % (128 / s) in
    let line = row / s - y % (64 / s) in
    ⊎_elim
    (λ (out : column < s * left).
    ap (λ bit. bit == 1) (stripe_left bits (s * left) column fits on_screen out)
    ∙ sym (covers_left high x y sprite column row s e (before_pixel high s left column e out)))
    (λ (low : s * left ≤ column).
    let inside = from_pixel high s left column e low in
    let covered = covers-inside high x y sprite column row s e inside.0 below in
    ⊎_elim
    (λ (near : column < s * left + 16).
    ap (λ bit. bit == 1) (stripe_inside bits (s * left) column fits on_screen low near)
    ∙ pattern (column - s * left) (omega arith)
    ∙ ap (λ k. is_set (row_bytes_by_length high sprite) sprite ((column - s * left) / k) line) (sym e)
    ∙ ap (λ i. is_set (row_bytes_by_length high sprite) sprite i line) inside.1
    ∙ covered)
    (λ (far : s * left + 16 ≤ column).
    ap (λ bit. bit == 1) (stripe_right bits (s * left) column fits on_screen far)
    ∙ sym (is_set_right (row_bytes_by_length high sprite) sprite (column / s - left) line (past_columns high sprite s left column e far))
    ∙ covered)
    (cases_lt column (s * left + 16)))
    (cases_lt column (s * left))

-- ---- a row of a sprite as sixteen bits

row_bytes-narrow : (sprite : List ℕ) → (length sprite ≡ 32 → ⊥) → row_bytes_by_length true sprite ≡ 1
unfolding row_bytes_by_length
row_bytes-narrow sprite h = cond-false (nat_eq (length sprite) 32) 2 1 (ne_eqb (length sprite) 32 h)

row_bytes-wide : (sprite : List ℕ) → length sprite ≡ 32 → row_bytes_by_length true sprite ≡ 2
unfolding row_bytes_by_length
row_bytes-wide sprite h = cond-true (nat_eq (length sprite) 32) 2 1 (eq-eqb (length sprite) 32 h)

-- a bit of the byte that contains the point
pub point_at : (w : ℕ) (sprite : List ℕ) (i j place k : ℕ) → i < 8 * w → w * j + i / 8 ≡ place → 7 - i % 8 ≡ k → (bit_at (get_or sprite place 0) k == 1) ≡ is_set w sprite i j
point_at w sprite i j place k within at bit = (λ t. bit_at (get_or sprite (sym at t) 0) (sym bit t) == 1) ∙ sym (is_set-inside w sprite i j within)

module _ (sprite : List ℕ) (j : ℕ) where
  pub pattern_low : (high : Bool) (bits byte : ℕ) → high ≡ false → byte ≡ get_or sprite j 0 → ((k : ℕ) → k < 16 → bit_at bits k ≡ bit_at byte (k / 2)) → IsPattern bits high sprite j
  unfolding row_bytes_by_length
  pattern_low high bits byte low read twice = subst (λ h. IsPattern bits h sprite j) (sym low) (λ i within.
      ap (λ bit. bit == 1) (twice (15 - i) (omega arith))
      ∙ ap (λ b. bit_at b ((15 - i) / 2) == 1) read
      ∙ point_at 1 sprite (i / 2) j j ((15 - i) / 2) (omega arith) (omega arith) (omega arith))

  pub pattern_narrow : (high : Bool) (byte : ℕ) → high ≡ true → (length sprite ≡ 32 → ⊥) → byte < 2 ^ 8 → byte ≡ get_or sprite j 0 → IsPattern (byte * 2 ^ 8 % 2 ^ 16) high sprite j
  pattern_narrow high byte is_high short fits read = subst (λ h. IsPattern (byte * 2 ^ 8 % 2 ^ 16) h sprite j) (sym is_high) (λ i within.
      ap (λ n. bit_at n (15 - i) == 1) (shl_whole byte 8 8 16 fits (omega arith) ∙ sym (add-zero (byte * 2 ^ 8)))
      ∙ ⊎_elim
      (λ (left : i < 8).
      let here : 15 - i - 8 ≡ 7 - i = omega arith in
      ap (λ bit. bit == 1) (bit_at_cat_high byte 8 0 (15 - i) (pow_pos 8) (omega arith) ∙ ap (bit_at byte) here)
      ∙ ap (λ b. bit_at b (7 - i) == 1) read
      ∙ point_at 1 sprite (i / 1) j j (7 - i) (omega arith) (omega arith) (omega arith))
      (λ (right : 8 ≤ i).
      ap (λ bit. bit == 1) (bit_at_cat_low byte 8 0 (15 - i) (omega arith) ∙ bit_at-zero (15 - i))
      ∙ sym (is_set_right 1 sprite (i / 1) j (omega arith)))
      (cases_lt i 8)
      ∙ ap (λ w. is_set w sprite (i / 1) j) (sym (row_bytes-narrow sprite short)))

  pub pattern_wide : (high : Bool) (first second : ℕ) → high ≡ true → length sprite ≡ 32 → first < 2 ^ 8 → second < 2 ^ 8 → first ≡ get_or sprite (2 * j) 0 → second ≡ get_or sprite (2 * j + 1) 0 → IsPattern (bit_or (first * 2 ^ 8 % 2 ^ 16) second) high sprite j
  pattern_wide high first second is_high long fits small read_first read_second = subst (λ h. IsPattern (bit_or (first * 2 ^ 8 % 2 ^ 16) second) h sprite j) (sym is_high) (λ i within.
      ap (λ n. bit_at (bit_or n second) (15 - i) == 1) (shl_whole first 8 8 16 fits (omega arith))
      ∙ ap (λ n. bit_at n (15 - i) == 1) (or_shifted first 8 second small)
      ∙ ⊎_elim
      (λ (left : i < 8).
      let here : 15 - i - 8 ≡ 7 - i = omega arith in
      ap (λ bit. bit == 1) (bit_at_cat_high first 8 second (15 - i) small (omega arith) ∙ ap (bit_at first) here)
      ∙ ap (λ b. bit_at b (7 - i) == 1) read_first
      ∙ point_at 2 sprite (i / 1) j (2 * j) (7 - i) (omega arith) (omega arith) (omega arith))
      (λ (right : 8 ≤ i).
      ap (λ bit. bit == 1) (bit_at_cat_low first 8 second (15 - i) (omega arith))
      ∙ ap (λ b. bit_at b (15 - i) == 1) read_second
      ∙ point_at 2 sprite (i / 1) j (2 * j + 1) (15 - i) (omega arith) (omega arith) (omega arith))
      (cases_lt i 8)
      ∙ ap (λ w. is_set w sprite (i / 1) j) (sym (row_bytes-wide sprite long)))

-- ---- whole screens

module _ (old new : List ℕ) (cover : ℕ → ℕ → Bool) (met : Bool) (all : AreTurned 0 64 cover old new met) where
  pub toggled_rows : in_rows new ≡ symmetric_difference (in_rows old) (points_where cover)
  toggled_rows =
      toggled_where (λ c r. lights (get_or new r 0) c) (λ c r. lights (get_or old r 0) c) cover (λ c r left high. all.turned r c (omega arith) high left)

  pub hit_rows : met ≡ meets (in_rows old) (points_where cover)
  hit_rows =
      let found : ℕ → Bool = λ row. any_below (λ column. lights (get_or old row 0) column && cover column row) 128 in
      let e : met ≡ any_below found 64 = sym (any_below_first found met) ∙ all.hit found (λ _ _ _. refl) in
      meets_where (λ c r. lights (get_or old r 0) c) cover met
      (λ none c r left high. any_below-false _ 128 (any_below-false found 64 (sym e ∙ none) r high) c left)
      (λ none. e ∙ any_below_none found 64 (λ r high. any_below_none _ 128 (λ c left. none c r left high)))

-- ---- rows with inverted pixels

or_groups : (a b d : Bool) → (a || (b || d)) ≡ ((a || b) || d)
or_groups true b d = refl
or_groups false b d = refl

-- inverting the pixels of some rows and then those of the next rows
pub turned_on : (start from end : ℕ) (cover other : ℕ → ℕ → Bool) (old rows new : List ℕ) (met more : ℕ) → start ≤ from → from ≤ end
    → ((column row : ℕ) → column < 128 → from ≤ row → row < end → other column row ≡ cover column row)
    → AreTurned start from cover old rows (not (nat_eq met 0)) → AreTurned from end other rows new (not (nat_eq more 0))
    → AreTurned start end cover old new (not (nat_eq (bit_or met more) 0))
turned_on start from end cover other old rows new met more low high same first rest =
    record {
      turned = λ row column above below within. ⊎_elim
          (λ (early : row < from). ap (λ bits. lights bits column) (rest.before row early) ∙ first.turned row column above early within)
          (λ (late : from ≤ row). rest.turned row column late below within ∙ (λ i. differ (lights (first.after row late i) column) (same column row within late below i)))
          (cases_lt row from);
      before = λ row above. rest.before row (omega arith) ∙ first.before row above;
      after = λ row below. rest.after row below ∙ first.after row (omega arith);
      hit = λ test is.
          ap (λ found. any_below test start || found) (either_some met more)
          ∙ or_groups (any_below test start) (not (nat_eq met 0)) (not (nat_eq more 0))
          ∙ ap (λ found. found || not (nat_eq more 0)) (first.hit test (λ row above below. is row above (omega arith)))
          ∙ rest.hit test (λ row late below.
          is row (omega arith) below ∙ any_below_same _ _ 128 (λ column within i. lights (sym (first.after row late) i) column && sym (same column row within late below) i));
    }

-- inverting the pixels of one row
pub turned_row : (rows : List ℕ) (place stripe : ℕ) → place < length rows → stripe < 2 ^ 128
    → AreTurned place (place + 1) (λ column row. lights stripe column) rows (set rows place (bit_xor (get_or rows place 0) stripe)) (not (nat_eq (bit_and (get_or rows place 0) stripe) 0))
turned_row rows place stripe within fits =
    let bits = bit_xor (get_or rows place 0) stripe in
    record {
      turned = λ row column above below _.
          let here : row ≡ place = omega arith in
          ap (λ r. lights (get_or (set rows place bits) r 0) column) here
          ∙ ap (λ bits. lights bits column) (get_or-set_same rows place bits 0 within)
          ∙ lights-bit_xor (get_or rows place 0) stripe column
          ∙ ap (λ r. differ (lights (get_or rows r 0) column) (lights stripe column)) (sym here);
      before = λ row above. get_or-set_other rows place row bits 0 (omega arith);
      after = λ row below. get_or-set_other rows place row bits 0 (omega arith);
      hit = λ test is.
          ap (λ found. any_below test place || found) (common_column (get_or rows place 0) stripe fits ∙ sym (is place (omega arith) (omega arith)))
          ∙ sym (any_below_more test place);
    }

unturned : (lit covered : Bool) → covered ≡ false → lit ≡ differ lit covered
unturned true covered e = ap (λ b. differ true b) (sym e)
unturned false covered e = ap (λ b. differ false b) (sym e)

-- inverting nothing, because nothing is covered
pub turned_nowhere : (start end : ℕ) (cover : ℕ → ℕ → Bool) (rows : List ℕ) → start ≤ end → ((column row : ℕ) → start ≤ row → row < end → cover column row ≡ false)
    → AreTurned start end cover rows rows false
turned_nowhere start end cover rows low none =
    record {
      turned = λ row column above below _. unturned _ _ (none column row above below);
      before = λ _ _. refl;
      after = λ _ _. refl;
      hit = λ test is.
          or-false (any_below test start)
          ∙ any_below_longer test start end low (λ row above below. is row above below ∙ any_below_none _ 128 (λ column _. and_right _ _ (none column row above below)));
    }

-- ---- scrolls

pub in_rows-scrolled_down : (n : ℕ) (old new : List ℕ)
    → ((r : ℕ) → n ≤ r → r < 64 → get_or new r 0 ≡ get_or old (r - n) 0)
    → ((r : ℕ) → r < n → r < 64 → get_or new r 0 ≡ 0)
    → in_rows new ≡ scrolled_down n (in_rows old)
in_rows-scrolled_down n old new moved entered =
    scrolled_down_where n (λ c r. lights (get_or new r 0) c) (λ c r. lights (get_or old r 0) c) (λ c r left high. ⊎_elim
    (λ (above : r < n).
    ap (λ bits. lights bits c) (entered r above high) ∙ ap (λ bit. bit == 1) (bit_at-zero (127 - c))
    ∙ sym (and_left (nat_le n r) _ (lt-leb n r above)))
    (λ (kept : n ≤ r).
    ap (λ bits. lights bits c) (moved r kept high)
    ∙ ap (λ b. b && lights (get_or old (r - n) 0) c) (sym (le-leb n r kept)))
    (cases_lt r n))

pub in_rows-scrolled_right : (n : ℕ) (old new : List ℕ) → n ≤ 128
    → ((r : ℕ) → get_or old r 0 < 2 ^ 128)
    → ((r : ℕ) → r < 64 → get_or new r 0 ≡ get_or old r 0 / 2 ^ n)
    → in_rows new ≡ scrolled_right n (in_rows old)
in_rows-scrolled_right n old new few fits moved =
    scrolled_right_where n (λ c r. lights (get_or new r 0) c) (λ c r. lights (get_or old r 0) c) (λ c r left high.
    ap (λ bits. lights bits c) (moved r high) ∙ lights_shr (get_or old r 0) n c (fits r) few left)

pub in_rows-scrolled_left : (n : ℕ) (old new : List ℕ)
    → ((r : ℕ) → r < 64 → get_or new r 0 ≡ get_or old r 0 * 2 ^ n % 2 ^ 128)
    → in_rows new ≡ scrolled_left n (in_rows old)
in_rows-scrolled_left n old new moved =
    scrolled_left_where n (λ c r. lights (get_or new r 0) c) (λ c r. lights (get_or old r 0) c)
    (λ c r inside high. ap (λ bits. lights bits c) (moved r high) ∙ lights_shl (get_or old r 0) n c (omega arith) inside)
    (λ c r left out high. ap (λ bits. lights bits c) (moved r high) ∙ lights_shl_out (get_or old r 0) n c left out)
