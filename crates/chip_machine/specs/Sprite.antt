-- A sprite drawn on the screen. A pixel of the high size is one stored pixel, and a pixel of the low
-- size is two by two stored pixels.
-- Source: COSMAC VIP manual (8 wide, the highest bit at the left, exclusive or, collisions);
-- SUPER-CHIP 1.1 documentation (the high size, sprites of 16 by 16); COSMAC VIP manual and
-- SUPER-CHIP 1.1 for clipping, Octo's manual for wrapping. This project chose that a sprite starts
-- at x and y modulo the size.
use Rattle.std.specs.Prelude.{ℕ, ◌+◌, ◌-◌, ◌*◌, ◌/◌, ◌%◌, Bool, true, false, ◌&&◌, ◌==◌, nat_lt, nat_le, List, slice_index, if◌then◌else◌}
use Rattle.std.specs.Int.{bit_at}
use Rattle.chip_machine.specs.declared.limits.TheConstants.{SPRITE_BYTES}
use Rattle.chip_machine.specs.Points.{Points, points_where}

-- the number of bytes of a sprite of n rows; n = 0 means sixteen rows, which may be wide
abbrev pub sprite_bytes : (wide : Bool) → ℕ → ℕ
sprite_bytes wide n = if n == 0 then (if wide then SPRITE_BYTES else 16) else n

-- the width and height of a pixel in stored pixels
abbrev pub scale : Bool → ℕ
scale true = 1
scale false = 2

-- the number of bytes in each row of a sprite of n rows: two for sixteen wide rows, otherwise one
unfoldable pub row_bytes : (wide : Bool) → ℕ → ℕ
row_bytes wide n = if wide && (n == 0) then 2 else 1

-- whether the pixel in column i and row j of a sprite with w bytes per row is set; the highest bit
-- is at the left
unfoldable pub is_set : ℕ → List ℕ → ℕ → ℕ → Bool
is_set w sprite i j =
    nat_lt i (8 * w) && (bit_at (slice_index sprite (w * j + i / 8)) (7 - i % 8) == 1)

-- whether a sprite with w bytes per row, drawn at x and y, has a set pixel over this stored pixel. The
-- position is taken modulo the size, and anything past an edge is clipped
unfoldable pub clipped_over : Bool → ℕ → ℕ → ℕ → List ℕ → ℕ → ℕ → Bool
clipped_over high x y w sprite column row =
    let left = x % (128 / scale high) in
    let top = y % (64 / scale high) in
    let across = column / scale high in
    let down = row / scale high in
    nat_le left across && nat_le top down && is_set w sprite (across - left) (down - top)

-- the same test for a sprite that wraps: anything past an edge re-enters at the opposite side, because
-- columns and rows are counted from the sprite's start, around the edge
unfoldable pub wrapped_over : Bool → ℕ → ℕ → ℕ → List ℕ → ℕ → ℕ → Bool
wrapped_over high x y w sprite column row =
    let width = 128 / scale high in
    let height = 64 / scale high in
    let across = (column / scale high + width - x % width) % width in
    let down = (row / scale high + height - y % height) % height in
    is_set w sprite across down

abbrev pub draws_over : (wraps high : Bool) → ℕ → ℕ → ℕ → List ℕ → ℕ → ℕ → Bool
draws_over true high x y w sprite column row = wrapped_over high x y w sprite column row
draws_over false high x y w sprite column row = clipped_over high x y w sprite column row

-- the stored pixels under the set pixels of a sprite with w bytes per row
abbrev pub covered : (wraps high : Bool) → ℕ → ℕ → ℕ → List ℕ → Points
covered wraps high x y w sprite = points_where (draws_over wraps high x y w sprite)
