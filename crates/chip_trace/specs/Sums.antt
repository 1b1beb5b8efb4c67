-- FNV-1a sums of 64 bits, and the bytes of a screen. FNV-1a follows the draft by Fowler, Noll, Vo and
-- Eastlake; this project chose the order of the pixels.
use Rattle.std.specs.Prelude.{ℕ, ◌+◌, ◌*◌, ◌%◌, ◌^◌, Bool, if◌then◌else◌, bit_xor, List, map, fold}
use Rattle.std.specs.List.{flat_map, range_with_len}
use Rattle.chip_machine.specs.Points.{Points, is_lit}

-- the sum of no bytes
abbrev pub fnv_basis : ℕ
fnv_basis = 14695981039346656037

-- the sum after one more byte; 1099511628211 is the prime of FNV for 64 bits
unfoldable pub fnv_step : ℕ → ℕ → ℕ
fnv_step sum byte = bit_xor sum byte * 1099511628211 % 2 ^ 64

-- the FNV-1a sum of bytes
abbrev pub fnv_of : List ℕ → ℕ
fnv_of bytes = fold fnv_step fnv_basis bytes

-- the value of a bit: 1 if it is set, otherwise 0
abbrev pub bit : Bool → ℕ
bit is_set = if is_set then 1 else 0

-- eight pixels of a row as a byte; the leftmost pixel is the highest bit
unfoldable pub points_byte : Points → (row place : ℕ) → ℕ
points_byte lit row place =
    128 * bit (is_lit lit (8 * place) row) + 64 * bit (is_lit lit (8 * place + 1) row)
    + 32 * bit (is_lit lit (8 * place + 2) row) + 16 * bit (is_lit lit (8 * place + 3) row)
    + 8 * bit (is_lit lit (8 * place + 4) row) + 4 * bit (is_lit lit (8 * place + 5) row)
    + 2 * bit (is_lit lit (8 * place + 6) row) + bit (is_lit lit (8 * place + 7) row)

-- the 128 pixels of a row as 16 bytes
unfoldable pub row_bytes : Points → ℕ → List ℕ
row_bytes lit row = map (points_byte lit row) (range_with_len 0 16)

-- the bytes of the 64 rows of a screen, from the top
unfoldable pub screen_bytes : Points → List ℕ
screen_bytes lit = flat_map (row_bytes lit) (range_with_len 0 64)
