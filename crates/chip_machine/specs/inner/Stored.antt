-- The pixels that 64 rows of 128 bits light, and the rows after some pixels are inverted.
-- Source: chosen by this project.
use Rattle.std.specs.Prelude.{◌≡◌, ℕ, zero, suc, ◌<◌, ◌≤◌, ◌&&◌, ◌||◌, Bool, true, false, not, List, slice_index}
use Rattle.chip_machine.specs.Points.{Points, points_where, lights}

-- the pixels that 64 rows of 128 bits light
abbrev pub in_rows : List ℕ → Points
in_rows rows = points_where (λ column row. lights (slice_index rows row) column)

-- exactly one of the two is true
abbrev pub differ : Bool → Bool → Bool
differ true b = not b
differ false b = b

-- whether a test passes for a number below n
unfoldable pub any_below : (ℕ → Bool) → ℕ → Bool
any_below test zero = false
any_below test (suc n) = any_below test n || test n

-- the rows from `start` to before `end` have their covered pixels inverted, and `met` is true if and
-- only if one of these pixels was lit; all other rows stay
pub record AreTurned (start end : ℕ) (cover : ℕ → ℕ → Bool) (old new : List ℕ)
    (met : Bool) : Type 0 where
  pub turned : (row column : ℕ) → start ≤ row → row < end → column < 128
      → lights (slice_index new row) column
      ≡ differ (lights (slice_index old row) column) (cover column row)
  pub before : (row : ℕ) → row < start → slice_index new row ≡ slice_index old row
  pub after : (row : ℕ) → end ≤ row → slice_index new row ≡ slice_index old row
  pub hit : (test : ℕ → Bool)
      → ((row : ℕ) → start ≤ row → row < end → test row
      ≡ any_below (λ column. lights (slice_index old row) column && cover column row) 128)
      → (any_below test start || met) ≡ any_below test end
