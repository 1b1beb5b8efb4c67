-- The first columns of a trace with the default columns (chosen by this project).
use Rattle.std.specs.Prelude.{◌≡◌, ℕ, List, [], ◌∷◌, ◌++◌, codes, drop, map, slice_index}
use Rattle.std.specs.Fmt.{decimal}
use Rattle.std.specs.List.{range_with_len}
use Rattle.hex.specs.Hex.{lower_digits}
use Rattle.chip_machine.specs.State.{State}
use Rattle.chip_trace.specs.Columns.{register_columns}
use Rattle.chip_trace.specs.Digits.{hex_byte, hex_word, spaced}
use Rattle.chip_trace.specs.Line.{word_of}
use Rattle.chip_trace.specs.declared.column.Column.{Column}
use Rattle.chip_trace.specs.declared.column.Column.TheVariants.{Step, Pc, Word, Index, Delay, Sound, Depth, Draws}
use Rattle.chip_trace.specs.declared.limits.TheConstants.{FIRST_COLUMNS}

-- all columns except the sums and the text
unfoldable pub first_columns : List Column
first_columns =
    (Step ∷ Pc ∷ Word ∷ []) ++ register_columns
    ++ (Index ∷ Delay ∷ Sound ∷ Depth ∷ Draws ∷ [])

-- the fields of `pc` to `st`, with a space before each and after the last; their length never changes
abbrev pub fixed_fields : State → List ℕ
fixed_fields s =
    32 ∷ hex_word s.core.pc ++ 32 ∷ hex_word (word_of s)
    ++ spaced hex_byte (map (slice_index s.core.registers) (range_with_len 0 16))
    ++ (32 ∷ hex_word s.core.index ++ spaced hex_byte (s.core.delay ∷ s.core.sound ∷ []) ++ 32 ∷ [])

-- a register's member, after a comma
abbrev pub register_member : (number value : ℕ) → List ℕ
register_member number value =
    codes ",\"v" ++ slice_index lower_digits number ∷ codes "\":" ++ decimal value

-- whether a list of columns starts with the first columns
abbrev pub BeginsAsUsual : List Column → Type 0
BeginsAsUsual columns = columns ≡ first_columns ++ drop FIRST_COLUMNS columns
