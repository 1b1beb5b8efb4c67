-- The complete lines of a script, each of which ends with a newline (chosen by this project). A
-- script is split into lines in the same way as a source.
use Rattle.std.specs.Prelude.{ℕ, List, [], ◌∷◌, map}
use Rattle.std.specs.List.{slice_split}
use Rattle.std.specs.Str.Lines.{strip_carriage_return}
use Rattle.chip_asm.specs.Lines.{is_newline}

-- all parts except the last
abbrev pub all_but_last : List (List ℕ) → List (List ℕ)
all_but_last [] = []
all_but_last (part ∷ []) = []
all_but_last (part ∷ next ∷ parts) = part ∷ all_but_last (next ∷ parts)

abbrev pub last_part : List (List ℕ) → List ℕ
last_part [] = []
last_part (part ∷ []) = part
last_part (part ∷ next ∷ parts) = last_part (next ∷ parts)

-- the complete lines, without their line endings
unfoldable pub complete_lines : List ℕ → List (List ℕ)
complete_lines bytes = map strip_carriage_return (all_but_last (slice_split is_newline bytes))

-- the text after the last newline
unfoldable pub unfinished_line : List ℕ → List ℕ
unfinished_line bytes = last_part (slice_split is_newline bytes)
