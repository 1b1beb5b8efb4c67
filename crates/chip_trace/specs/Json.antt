-- The line of a step as a JSON object (this project chose the members; the syntax is that of JSON).
use Rattle.std.specs.Prelude.{ℕ, Bool, List, [], ◌∷◌, ◌++◌, length, map, slice_index}
use Rattle.std.specs.Fmt.{decimal}
use Rattle.std.specs.List.{join_with_byte}
use Rattle.chip_machine.specs.State.{State}
use Rattle.chip_trace.specs.Columns.{column_name}
use Rattle.chip_trace.specs.Digits.{hex_sum}
use Rattle.chip_trace.specs.Line.{text_of, word_of}
use Rattle.chip_trace.specs.Sums.{fnv_of, screen_bytes}
use Rattle.chip_trace.specs.declared.column.Column.{Column}
use Rattle.chip_trace.specs.declared.column.Column.TheVariants.{Step, Pc, Word, Register, Index, Delay, Sound, Depth, Draws, Screen, Memory, Text}

-- a text in quotes; no text of a trace contains a quote, a backslash or a control byte
abbrev pub quoted : List ℕ → List ℕ
quoted text = 34 ∷ text ++ 34 ∷ []

-- a column's value in JSON: a text for the two sums and for `text`, otherwise a number in decimal
abbrev pub json_value : Column → (step : ℕ) → State → (is_last : Bool) → List ℕ
json_value Step step s is_last = decimal step
json_value Pc step s is_last = decimal s.core.pc
json_value Word step s is_last = decimal (word_of s)
json_value (Register x) step s is_last = decimal (slice_index s.core.registers x)
json_value Index step s is_last = decimal s.core.index
json_value Delay step s is_last = decimal s.core.delay
json_value Sound step s is_last = decimal s.core.sound
json_value Depth step s is_last = decimal (length s.core.frames)
json_value Draws step s is_last = decimal s.core.draws
json_value Screen step s is_last = quoted (hex_sum (fnv_of (screen_bytes s.core.lit)))
json_value Memory step s is_last = quoted (hex_sum (fnv_of s.memory))
json_value Text step s is_last = quoted (text_of s is_last)

-- a member of the object: the name of a column in quotes, a colon, and the column's value
abbrev pub json_member : Column → (step : ℕ) → State → (is_last : Bool) → List ℕ
json_member column step s is_last =
    quoted (column_name column) ++ 58 ∷ json_value column step s is_last

-- a JSON object with a member for each column, separated by commas
unfoldable pub json_line_of : List Column → (step : ℕ) → State → (is_last : Bool) → List ℕ
json_line_of columns step s is_last =
    123 ∷ join_with_byte 44 (map (λ column. json_member column step s is_last) columns) ++ 125 ∷ []
