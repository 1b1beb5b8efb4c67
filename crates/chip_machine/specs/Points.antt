-- The screen of 128 columns and 64 rows, as the set of its lit pixels.
-- Source: SUPER-CHIP 1.1 documentation for the 128 by 64 pixels; this project chose that the low size
-- uses the same stored pixels.
use Rattle.std.specs.Prelude.{◌≡◌, ℕ, ◌-◌, ◌<◌, ◌==◌, Bool, true, not, nat_eq, map}
use Rattle.std.specs.Int.{bit_at}
use Rattle.std.specs.List.{flat_map, range_with_len}
use Rattle.std.specs.Ordering.{nat_cmp, ordering_then}
use Rattle.std.specs.declared.cmp.Ordering.{Ordering}
use Rattle.std.specs.Coded.{Coded, coded×, coded_ℕ}
use Rattle.std.specs.FinSet as set
use Rattle.std.specs.FinSet.{FinSet}

-- a point: its column, counted from the left, and its row, counted from the top
abbrev pub Point : Type 0
Point = ℕ × ℕ

-- the order of points: by column, and then by row
abbrev pub point_cmp : Point → Point → Ordering
point_cmp p q = ordering_then (nat_cmp p.0 q.0) (nat_cmp p.1 q.1)

-- a finite set of points
abbrev pub Points : Type 0
Points = FinSet point_cmp

abbrev pub points_code : Coded Points
points_code = set.code (coded× coded_ℕ coded_ℕ)

-- whether the point in this column and row is in the set
abbrev pub is_lit : Points → ℕ → ℕ → Bool
is_lit lit column row = set.contains lit (column, row)

-- whether a column is lit in a row of 128 bits, in which the leftmost column is the highest bit
abbrev pub lights : ℕ → ℕ → Bool
lights bits column = bit_at bits (127 - column) == 1

-- every point of a rectangle, row by row
unfoldable pub rectangle : ℕ → ℕ → Points
rectangle width height =
    set.from_list (flat_map (λ row. map (λ column. (column, row)) (range_with_len 0 width))
    (range_with_len 0 height))

-- the pixels of the screen whose column and row pass a test
unfoldable pub points_where : (ℕ → ℕ → Bool) → Points
points_where test = set.retain (rectangle 128 64) (λ p. test p.0 p.1)

-- the points that are in exactly one of two sets
unfoldable pub symmetric_difference : Points → Points → Points
symmetric_difference a b = set.union (set.difference a b) (set.difference b a)

-- whether two sets share a point
unfoldable pub meets : Points → Points → Bool
meets a b = not (nat_eq (set.len (set.intersection a b)) 0)

-- no point of the set is outside the screen
abbrev pub IsOnScreen : Points → Type 0
IsOnScreen lit = (column row : ℕ) → is_lit lit column row ≡ true → (column < 128) × (row < 64)
