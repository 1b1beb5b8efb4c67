-- The lines that are encoded again because of an edit (chosen by this project).
use Rattle.std.specs.Prelude.{ℕ, Bool, false, not, ◌&&◌, List, map, reverse, count_by, Option, slice_get, is_none}
use Rattle.std.specs.List.{enumerate_from}
use Rattle.std.specs.Option.{option_map_or}
use Rattle.chip_lang.specs.Line.{Reading, reading_of}
use Rattle.chip_lang.specs.Uses.{agree_on}
use Rattle.chip_symbols.specs.Names.{values_of}
use Rattle.chip_asm.specs.Layout.{Placed}
use Rattle.chip_asm.specs.computed.Walk.{placed}
use Rattle.chip_asm.specs.Program.{names_of_lines, first_pass_fault}

-- true if a line is active and the first pass finds no fault in it
abbrev pub is_accepted_in : List Placed → Placed → Bool
is_accepted_in all p = p.active && is_none (first_pass_fault all p)

-- true if the line at a place, counted from 0, is accepted
abbrev pub is_accepted_at : List Reading → ℕ → Bool
is_accepted_at lines place =
    option_map_or (is_accepted_in (placed lines)) (slice_get (reverse (placed lines)) place) false

-- the number of accepted lines
abbrev pub accepted_lines : List Reading → ℕ
accepted_lines lines = count_by (λ at. is_accepted_at lines at.0) (enumerate_from 0 lines)

-- True for a line of the new source, with its place, that has to be encoded: it is accepted there,
-- and it is the new line, or it wasn't accepted in the old source, or a name that it uses has a
-- different value now. `origin` returns the place that the line at a place had before.
unfoldable pub needs : (old new : List Reading) → (origin : ℕ → Option ℕ) → ℕ × Reading → Bool
needs old new origin at =
    is_accepted_at new at.0
    && not (option_map_or (λ before. is_accepted_at old before
    && agree_on (values_of (names_of_lines old)) (values_of (names_of_lines new)) at.1)
    (origin at.0) false)

abbrev pub needs_count : (old new : List Reading) → (ℕ → Option ℕ) → ℕ
needs_count old new origin = count_by (needs old new origin) (enumerate_from 0 new)

-- Functions of the texts of a source:

-- the number of accepted lines
unfoldable pub accepted_of : List (List ℕ) → ℕ
accepted_of texts = accepted_lines (map reading_of texts)

-- the number of lines that have to be encoded
unfoldable pub lines_to_encode : (old new : List (List ℕ)) → (origin : ℕ → Option ℕ) → ℕ
lines_to_encode old new origin = needs_count (map reading_of old) (map reading_of new) origin
