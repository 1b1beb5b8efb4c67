-- The columns of a trace, their names, and the line that names them (chosen by this project).
use Rattle.std.specs.Prelude.{ℕ, Bool, List, [], ◌∷◌, ◌++◌, map, codes, slice_index, if◌then◌else◌}
use Rattle.std.specs.List.{join_with_byte, range_with_len}
use Rattle.hex.specs.Hex.{lower_digits}
use Rattle.chip_trace.specs.declared.column.Column.{Column}
use Rattle.chip_trace.specs.declared.column.Column.TheVariants.{Step, Pc, Word, Register, Index, Delay, Sound, Depth, Draws, Screen, Memory, Text}

abbrev pub column_name : Column → List ℕ
column_name Step = codes "step"
column_name Pc = codes "pc"
column_name Word = codes "word"
column_name (Register x) = 118 ∷ slice_index lower_digits x ∷ []
column_name Index = codes "i"
column_name Delay = codes "dt"
column_name Sound = codes "st"
column_name Depth = codes "depth"
column_name Draws = codes "draws"
column_name Screen = codes "screen"
column_name Memory = codes "memory"
column_name Text = codes "text"

-- the columns of V0 to VF
abbrev pub register_columns : List Column
register_columns = map (λ x. Register x) (range_with_len 0 16)

-- the default columns of a trace, with or without the two sums
abbrev pub usual_columns : (sums : Bool) → List Column
usual_columns sums =
    (Step ∷ Pc ∷ Word ∷ []) ++ register_columns
    ++ (Index ∷ Delay ∷ Sound ∷ Depth ∷ Draws ∷ [])
    ++ (if sums then Screen ∷ Memory ∷ [] else []) ++ (Text ∷ [])

-- the line that names the columns: a `#`, and the names with a space before each name
abbrev pub header_line : List Column → List ℕ
header_line columns = codes "# " ++ join_with_byte 32 (map column_name columns)
