-- A sprite as the code draws it, described only by its bytes.
-- Source: chosen by this project.
use Rattle.std.specs.Prelude.{ℕ, ◌+◌, ◌*◌, ◌/◌, ◌%◌, ◌<◌, ◌≤◌, Bool, ◌&&◌, ◌==◌, List, length, if◌then◌else◌}
use Rattle.chip_machine.specs.declared.limits.TheConstants.{SPRITE_BYTES}
use Rattle.chip_machine.specs.Points.{Points, points_where}
use Rattle.chip_machine.specs.Sprite.{clipped_over, draws_over, scale}
use Rattle.chip_machine.specs.declared.sprite.Half.{Half}
use Rattle.chip_machine.specs.declared.sprite.Half.TheVariants.{Left, Middle, Right}

-- the number of bytes per row of a clipped sprite, computed from its length. In the high size, a
-- sprite of `SPRITE_BYTES` bytes has sixteen wide rows
unfoldable pub row_bytes_by_length : Bool → List ℕ → ℕ
row_bytes_by_length high sprite = if high && (length sprite == SPRITE_BYTES) then 2 else 1

abbrev pub covers_by_length : Bool → ℕ → ℕ → List ℕ → ℕ → ℕ → Bool
covers_by_length high x y sprite = clipped_over high x y (row_bytes_by_length high sprite) sprite

-- the number of bytes per row in both sizes: a sprite of `SPRITE_BYTES` bytes has sixteen wide rows
unfoldable pub sprite_row_bytes : List ℕ → ℕ
sprite_row_bytes sprite = if length sprite == SPRITE_BYTES then 2 else 1

abbrev pub covers : (wraps high : Bool) → ℕ → ℕ → List ℕ → ℕ → ℕ → Bool
covers wraps high x y sprite = draws_over wraps high x y (sprite_row_bytes sprite) sprite

abbrev pub covered_by_bytes : (wraps high : Bool) → ℕ → ℕ → List ℕ → Points
covered_by_bytes wraps high x y sprite = points_where (covers wraps high x y sprite)

-- the stored column at which a sprite drawn at x starts
abbrev pub first_column : Bool → ℕ → ℕ
first_column high x = scale high * (x % (128 / scale high))

-- the half of the screen that sixteen columns from a given column lie in. The code has a separate loop
-- for each half
abbrev pub LiesIn : Half → ℕ → Type 0
LiesIn Left start = start + 16 ≤ 64
LiesIn Middle start = start < 64
LiesIn Right start = 64 ≤ start
