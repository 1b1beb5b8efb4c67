-- The screen as text: each character shows two pixels, one above the other (chosen by this project).
use Rattle.std.specs.Prelude.{ℕ, ◌+◌, ◌*◌, Bool, true, false, List, [], ◌∷◌, ◌++◌, codes, if◌then◌else◌}
use Rattle.std.specs.List.{flat_map, range_with_len}
use Rattle.chip_machine.specs.Points.{Points, is_lit}
use Rattle.chip_machine.specs.State.{State}
use Rattle.chip_views.specs.declared.picture.Letters.{Letters}
use Rattle.chip_views.specs.declared.picture.Letters.TheVariants.{Blocks, Plain}

-- the number of pixels in a row and the number of rows, in the high or the low size
abbrev pub width : Bool → ℕ
width high = if high then 128 else 64

abbrev pub height : Bool → ℕ
height high = if high then 64 else 32

-- whether a pixel is lit; a pixel of the low size is stored as four pixels, and the upper left of these counts
abbrev pub is_seen : Bool → Points → ℕ → ℕ → Bool
is_seen high lit column row =
    if high then is_lit lit column row else is_lit lit (2 * column) (2 * row)

-- the character for a pixel and the pixel below it
unfoldable pub cell : Letters → Bool → Bool → List ℕ
cell Blocks false false = codes " "
cell Plain false false = codes " "
cell Blocks true false = 226 ∷ 150 ∷ 128 ∷ []
cell Blocks false true = 226 ∷ 150 ∷ 132 ∷ []
cell Blocks true true = 226 ∷ 150 ∷ 136 ∷ []
cell Plain true false = codes "'"
cell Plain false true = codes "."
cell Plain true true = codes ":"

-- the character in a column of a line
unfoldable pub cell_at : Letters → Bool → Points → ℕ → ℕ → List ℕ
cell_at letters high lit line column =
    cell letters (is_seen high lit column (2 * line)) (is_seen high lit column (2 * line + 1))

-- a line of characters, which shows two rows of pixels, with a newline
unfoldable pub picture_line : Letters → Bool → Points → ℕ → List ℕ
picture_line letters high lit line =
    flat_map (cell_at letters high lit line) (range_with_len 0 (width high)) ++ 10 ∷ []

abbrev pub lines_high : Bool → ℕ
lines_high high = if high then 32 else 16

-- the screen of a state, line by line from the top
unfoldable pub picture_of : Letters → State → List ℕ
picture_of letters s =
    flat_map (picture_line letters s.core.high s.core.lit)
    (range_with_len 0 (lines_high s.core.high))
