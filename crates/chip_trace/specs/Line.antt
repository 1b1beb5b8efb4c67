-- The line of a step, as fields (chosen by this project; the state follows the COSMAC VIP manual and the
-- SUPER-CHIP 1.1 documentation).
use Rattle.std.specs.Prelude.{ℕ, Bool, true, false, List, ◌∷◌, length, map, codes, slice_index, Option, Some, None}
use Rattle.std.specs.Fmt.{decimal}
use Rattle.std.specs.List.{join_with_byte}
use Rattle.chip_lang.specs.Show.{show_of}
use Rattle.chip_machine.specs.Numbers.{stop_number}
use Rattle.chip_machine.specs.State.{State}
use Rattle.chip_machine.specs.Step.{word_at}
use Rattle.chip_machine.specs.declared.stop.Stop.{Stop}
use Rattle.chip_trace.specs.Digits.{hex_byte, hex_word, hex_sum}
use Rattle.chip_trace.specs.Sums.{fnv_of, screen_bytes}
use Rattle.chip_trace.specs.declared.column.Column.{Column}
use Rattle.chip_trace.specs.declared.column.Column.TheVariants.{Step, Pc, Word, Register, Index, Delay, Sound, Depth, Draws, Screen, Memory, Text}

-- the word at pc; bytes past the end of the memory count as 0
abbrev pub word_of : State → ℕ
word_of s = word_at s.memory s.core.pc

-- why a machine stopped, as `S` and a number, or `run` if it hasn't stopped
abbrev pub stop_name : Option Stop → List ℕ
stop_name None = codes "run"
stop_name (Some stop) = 83 ∷ decimal (stop_number stop)

-- the field of the column `text`: the instruction or, in the last line, why the machine stopped
abbrev pub text_of : State → (is_last : Bool) → List ℕ
text_of s true = stop_name s.core.stopped
text_of s false = show_of (word_of s)

-- the field of a column, for a step and the state before it
abbrev pub field_of : Column → (step : ℕ) → State → (is_last : Bool) → List ℕ
field_of Step step s is_last = decimal step
field_of Pc step s is_last = hex_word s.core.pc
field_of Word step s is_last = hex_word (word_of s)
field_of (Register x) step s is_last = hex_byte (slice_index s.core.registers x)
field_of Index step s is_last = hex_word s.core.index
field_of Delay step s is_last = hex_byte s.core.delay
field_of Sound step s is_last = hex_byte s.core.sound
field_of Depth step s is_last = decimal (length s.core.frames)
field_of Draws step s is_last = decimal s.core.draws
field_of Screen step s is_last = hex_sum (fnv_of (screen_bytes s.core.lit))
field_of Memory step s is_last = hex_sum (fnv_of s.memory)
field_of Text step s is_last = text_of s is_last

-- the fields of a step, separated by spaces
unfoldable pub line_of : List Column → (step : ℕ) → State → (is_last : Bool) → List ℕ
line_of columns step s is_last =
    join_with_byte 32 (map (λ column. field_of column step s is_last) columns)
