-- The pixels of a row, eight per byte, as the bits of a number.
use Rattle.std.proofs.Common.{◌≡◌, ℕ, ◌+◌, ◌*◌, ◌-◌, ◌/◌, ◌%◌, ◌^◌, ◌<◌, ◌==◌, List, [], ◌∷◌, ◌++◌, length, take, slice_set, sym, ap, ap₂, ◌∙◌, zero-add, arith, div-one, lit<, refl, ◌≢◌, suc, add-zero, below_more, fold, get_or, get_or-set_other, get_or-set_same}
use Rattle.std.specs.Int.{bit_at}
use Rattle.std.specs.List.{flat_map, range_with_len}
use Rattle.std.proofs.lemmas.List.{flat_map_more, take_more}
use Rattle.std.proofs.lemmas.List.Sums.{fold-append}
use Rattle.std.proofs.lemmas.Nat.Bits.{bit_at-lt}
use Rattle.std.proofs.lemmas.Nat.{shr-shr}
use Rattle.chip_machine.specs.Points.{Points, is_lit, lights}
use Rattle.chip_trace.specs.Sums.{bit, points_byte, row_bytes, screen_bytes, fnv_step, fnv_basis, fnv_of}
use Rattle.chip_trace.specs.inner.Rows.{bytes_of_row, bytes_of_rows}

-- the value of a bit, computed from whether it is 1
as_bit : (n : ℕ) → n < 2 → bit (n == 1) ≡ n
as_bit n small = grind arith

by_bits : (n : ℕ) → n % 256 ≡ 128 * (n / 128 % 2) + 64 * (n / 64 % 2) + 32 * (n / 32 % 2) + 16 * (n / 16 % 2) + 8 * (n / 8 % 2) + 4 * (n / 4 % 2) + 2 * (n / 2 % 2) + n % 2
by_bits n = omega arith

module _ (lit : Points) (row bits : ℕ) (points : (column : ℕ) → column < 128 → lights bits column ≡ is_lit lit column row) where
  point_is : (column : ℕ) → column < 128 → bit_at bits (127 - column) ≡ bit (is_lit lit column row)
  point_is column lt = sym (as_bit (bit_at bits (127 - column)) (bit_at-lt bits (127 - column))) ∙ ap bit (points column lt)

  shifted : (place column m : ℕ) → place < 16 → m < 8 → 8 * place + 7 ≡ column + m → bits / 2 ^ (120 - 8 * place) / 2 ^ m % 2 ≡ bit (is_lit lit column row)
  shifted place column m lt small at =
      let here : 120 - 8 * place + m ≡ 127 - column = omega arith in
      ap (λ n. n % 2) (shr-shr bits (120 - 8 * place) m) ∙ ap (bit_at bits) here ∙ point_is column (omega arith)

  row_byte_is : (place : ℕ) → place < 16 → bits / 2 ^ (120 - 8 * place) % 256 ≡ points_byte lit row place
  unfolding points_byte
  row_byte_is place lt =
      let n : ℕ = bits / 2 ^ (120 - 8 * place) in
      let b₇ : n / 128 % 2 ≡ bit (is_lit lit (8 * place) row) = shifted place (8 * place) 7 lt (omega arith) (omega arith) in
      let b₆ : n / 64 % 2 ≡ bit (is_lit lit (8 * place + 1) row) = shifted place (8 * place + 1) 6 lt (omega arith) (omega arith) in
      let b₅ : n / 32 % 2 ≡ bit (is_lit lit (8 * place + 2) row) = shifted place (8 * place + 2) 5 lt (omega arith) (omega arith) in
      let b₄ : n / 16 % 2 ≡ bit (is_lit lit (8 * place + 3) row) = shifted place (8 * place + 3) 4 lt (omega arith) (omega arith) in
      let b₃ : n / 8 % 2 ≡ bit (is_lit lit (8 * place + 4) row) = shifted place (8 * place + 4) 3 lt (omega arith) (omega arith) in
      let b₂ : n / 4 % 2 ≡ bit (is_lit lit (8 * place + 5) row) = shifted place (8 * place + 5) 2 lt (omega arith) (omega arith) in
      let b₁ : n / 2 % 2 ≡ bit (is_lit lit (8 * place + 6) row) = shifted place (8 * place + 6) 1 lt (omega arith) (omega arith) in
      let b₀ : n / 1 % 2 ≡ bit (is_lit lit (8 * place + 7) row) = shifted place (8 * place + 7) 0 lt (omega arith) (omega arith) in
      omega (arith, by_bits n)

  abbrev byte : ℕ → ℕ
  byte place = bits / 2 ^ (120 - 8 * place) % 256

  on : (x y : ℕ) (xs ys : List ℕ) → x ≡ y → xs ≡ ys → x ∷ xs ≡ y ∷ ys
  on x y xs ys e f = ap₂ (λ b bs. b ∷ bs) e f

  -- the bytes of a row, with the highest byte first
  pub row_bytes_are : bytes_of_row bits ≡ row_bytes lit row
  unfolding row_bytes bytes_of_row
  row_bytes_are =
      let b : (place : ℕ) → place < 16 → byte place ≡ points_byte lit row place = row_byte_is in
      let last : bits % 256 ≡ points_byte lit row 15 = sym (ap (λ n. n % 256) (div-one bits)) ∙ b 15 (lit< tt) in
      on _ _ _ _ (b 0 (lit< tt)) (on _ _ _ _ (b 1 (lit< tt)) (on _ _ _ _ (b 2 (lit< tt)) (on _ _ _ _ (b 3 (lit< tt))
      (on _ _ _ _ (b 4 (lit< tt)) (on _ _ _ _ (b 5 (lit< tt)) (on _ _ _ _ (b 6 (lit< tt)) (on _ _ _ _ (b 7 (lit< tt))
      (on _ _ _ _ (b 8 (lit< tt)) (on _ _ _ _ (b 9 (lit< tt)) (on _ _ _ _ (b 10 (lit< tt)) (on _ _ _ _ (b 11 (lit< tt))
      (on _ _ _ _ (b 12 (lit< tt)) (on _ _ _ _ (b 13 (lit< tt)) (on _ _ _ _ (b 14 (lit< tt)) (on _ _ _ _ last refl)))))))))))))))

-- one more row is kept
pub row_kept : (f g : ℕ → List ℕ) (rows : List ℕ) (n points : ℕ) → n < length rows → f points ≡ g n → ((k : ℕ) → k < n → f (get_or rows k 0) ≡ g k)
    → (k : ℕ) → k < n + 1 → f (get_or (slice_set rows n points) k 0) ≡ g k
row_kept f g rows n points lt here before =
    below_more (λ k. f (get_or (slice_set rows n points) k 0) ≡ g k) n
    (λ k h. let other : k ≢ n = omega arith in rw get_or-set_other (before k h))
    (rw get_or-set_same here)

all_rows : (f g : ℕ → List ℕ) (rows : List ℕ) (a : ℕ) → ((k : ℕ) → k < length rows → f (get_or rows k 0) ≡ g (a + k)) → flat_map f rows ≡ flat_map g (range_with_len a (length rows))
all_rows f g [] a same = refl
all_rows f g (x ∷ xs) a same =
    ap₂ (λ l ls. l ++ ls) (same 0 (omega arith) ∙ ap g (add-zero a))
    (all_rows f g xs (a + 1) (λ k lt. same (suc k) (omega arith) ∙ ap g (let e : a + suc k ≡ a + 1 + k = omega arith in e)))

-- all rows are kept
pub rows_kept : (lit : Points) (rows : List ℕ) → length rows ≡ 64 → ((k : ℕ) → k < 64 → bytes_of_row (get_or rows k 0) ≡ row_bytes lit k) → bytes_of_rows rows ≡ screen_bytes lit
unfolding bytes_of_rows screen_bytes
rows_kept lit rows size same =
    all_rows bytes_of_row (row_bytes lit) rows 0 (λ k lt. same k (omega arith) ∙ ap (row_bytes lit) (sym (zero-add k)))
    ∙ ap (λ n. flat_map (row_bytes lit) (range_with_len 0 n)) size

pub no_rows : bytes_of_rows [] ≡ []
unfolding bytes_of_rows
no_rows = refl

-- the sum of one more row
pub sum_more : (rows : List ℕ) (i sum after : ℕ) → i < length rows → sum ≡ fnv_of (bytes_of_rows (take i rows)) → after ≡ fold fnv_step sum (bytes_of_row (get_or rows i 0))
    → after ≡ fnv_of (bytes_of_rows (take (i + 1) rows))
unfolding bytes_of_rows
sum_more rows i sum after lt is more =
    let row : List ℕ = bytes_of_row (get_or rows i 0) in
    more ∙ ap (λ s. fold fnv_step s row) is
    ∙ sym (fold-append fnv_step fnv_basis (flat_map bytes_of_row (take i rows)) row)
    ∙ ap fnv_of (flat_map_more bytes_of_row [] (take i rows) (get_or rows i 0) ∙ ap (flat_map bytes_of_row) (sym (take_more rows i 0 lt)))
