-- Reading the line that names a trace's columns (chosen by this project).
use Rattle.std.specs.Prelude.{ℕ, ◌+◌, ◌-◌, ◌==◌, nat_eq, Bool, true, false, not, List, [], ◌∷◌, ◌++◌, drop, take, length, map, codes, Option, Some, None, is_none, if◌then◌else◌}
use Rattle.std.specs.List.{find, list_any, position_or_len, slice_split, starts_with}
use Rattle.std.specs.Str.{str_eq_ignore_ascii_case}
use Rattle.chip_trace.specs.Columns.{column_name, register_columns}
use Rattle.chip_trace.specs.declared.column.Column.{Column}
use Rattle.chip_trace.specs.declared.column.Column.TheVariants.{Step, Pc, Word, Index, Delay, Sound, Depth, Draws, Screen, Memory, Text}
use Rattle.chip_trace.specs.declared.header.HeaderError.{HeaderError}
use Rattle.chip_trace.specs.declared.header.HeaderError.TheVariants.{NotAHeader, UnknownColumn, TextNotLast}

-- the columns that aren't register columns
abbrev pub other_columns : List Column
other_columns =
    Step ∷ Pc ∷ Word ∷ Index ∷ Delay ∷ Sound ∷ Depth ∷ Draws ∷ Screen ∷ Memory ∷ Text ∷ []

-- whether a column has a name, ignoring the case of letters
abbrev pub is_named : List ℕ → Column → Bool
is_named name column = str_eq_ignore_ascii_case name (column_name column)

-- the column with a name
unfoldable pub column_of : List ℕ → Option Column
column_of name = find (is_named name) (other_columns ++ register_columns)

abbrev pub is_space : ℕ → Bool
is_space byte = byte == 32

-- the columns whose names follow the first two bytes of a line, separated by spaces
abbrev pub columns_named : List ℕ → List (Option Column)
columns_named line = map column_of (slice_split is_space (drop 2 line))

abbrev pub is_text : Option Column → Bool
is_text (Some Text) = true
is_text _ = false

-- whether the column `text` comes before the last column
abbrev pub has_text : List (Option Column) → Bool
has_text columns = list_any is_text (take (length columns - 1) columns)

-- the number, counted from 1, of the first name that isn't the name of a column
abbrev pub first_unknown : List (Option Column) → ℕ
first_unknown columns = position_or_len is_none columns + 1

-- the first reason why a line doesn't name columns, in the order of these tests
unfoldable pub header_fault : List ℕ → Option HeaderError
header_fault line =
    if not (starts_with nat_eq line (codes "# ")) then Some NotAHeader
    else if list_any is_none (columns_named line) then Some (UnknownColumn (first_unknown (columns_named line)))
    else if has_text (columns_named line) then Some TextNotLast else None
