-- The answers to questions about the machine's state (chosen by this project). The COSMAC VIP
-- manual and the SUPER-CHIP 1.1 documentation define the state.
use Rattle.std.specs.Prelude.{ℕ, ◌+◌, ◌*◌, Bool, List, [], ◌∷◌, ◌++◌, Option, Some, None, if◌then◌else◌, slice_range, codes, nat_lt}
use Rattle.std.specs.List.{flat_map, list_any, range_with_len}
use Rattle.std.specs.Fmt.{decimal}
use Rattle.chip_lang.specs.Show.{show_of}
use Rattle.chip_machine.specs.declared.stop.Stop.{Stop}
use Rattle.chip_machine.specs.Numbers.{stop_number}
use Rattle.chip_machine.specs.Points.{Points, is_lit}
use Rattle.chip_machine.specs.State.{Core, State}
use Rattle.chip_machine.specs.Step.{word_at}
use Rattle.chip_session.specs.Text.{full_stop, hex_line}
use Rattle.chip_trace.specs.Digits.{hex_byte, hex_word, spaced}
use Rattle.chip_trace.specs.Sums.{row_bytes}

-- ---- regs

abbrev pub size_name : Bool → List ℕ
size_name high = if high then codes "high" else codes "low"

abbrev pub state_name : Option Stop → List ℕ
state_name None = codes "run"
state_name (Some stop) = 83 ∷ decimal (stop_number stop)

-- `v` and V0 to VF
abbrev pub register_line : Core → List ℕ
register_line c = codes "v" ++ spaced hex_byte c.registers ++ 10 ∷ []

-- the values of pc and I
abbrev pub place_part : Core → List ℕ
place_part c = codes "pc " ++ hex_word c.pc ++ codes " i " ++ hex_word c.index

abbrev pub timer_part : Core → List ℕ
timer_part c = codes " dt " ++ hex_byte c.delay ++ codes " st " ++ hex_byte c.sound

-- the number of random bytes used, the size of the screen, and the stop if the machine has stopped
abbrev pub condition_part : Core → List ℕ
condition_part c =
    codes " draws " ++ decimal c.draws ++ codes " " ++ size_name c.high ++ codes " "
    ++ state_name c.stopped ++ 10 ∷ []

-- pc, I, the timers, the number of random bytes used, the size of the screen, and the stop if the
-- machine has stopped
abbrev pub state_line : Core → List ℕ
state_line c = place_part c ++ timer_part c ++ condition_part c

-- the eight flag registers, and the return addresses on the call stack, oldest first
abbrev pub flag_line : Core → List ℕ
flag_line c =
    codes "flags" ++ spaced hex_byte c.flags ++ codes " stack" ++ spaced hex_word c.frames
    ++ 10 ∷ []

unfoldable pub registers_of : State → List ℕ
registers_of s = register_line s.core ++ state_line s.core ++ flag_line s.core

-- ---- mem

-- `count` bytes from address `at`
abbrev pub bytes_at : State → ℕ → ℕ → List ℕ
bytes_at s at count = slice_range s.memory at (at + count)

unfoldable pub memory_line : State → ℕ → ℕ → List ℕ
memory_line s at count = hex_line (bytes_at s at count)

-- ---- dis

-- an address, the word there, and the word's source text
abbrev pub word_line : State → ℕ → List ℕ
word_line s at =
    hex_word at ++ codes " " ++ hex_word (word_at s.memory at) ++ codes " "
    ++ show_of (word_at s.memory at) ++ 10 ∷ []

-- `count` words from address `at`
unfoldable pub disassembly_of : State → ℕ → ℕ → List ℕ
disassembly_of s at count =
    flat_map (λ place. word_line s (at + 2 * place)) (range_with_len 0 count) ++ full_stop

-- ---- screen

unfoldable pub has_lit : Points → ℕ → Bool
has_lit lit row = list_any (λ column. is_lit lit column row) (range_with_len 0 128)

-- a number below 100 in two decimal digits
abbrev pub two_digits : ℕ → List ℕ
two_digits n = if nat_lt n 10 then 48 ∷ decimal n else decimal n

-- a line for a stored row that has a lit pixel: its number, and its pixels in hexadecimal
unfoldable pub row_line : Points → ℕ → List ℕ
row_line lit row =
    if has_lit lit row
    then two_digits row ++ codes " " ++ hex_line (row_bytes lit row)
    else []

-- the lines of the rows that have a lit pixel, from top to bottom
unfoldable pub row_lines : Points → List ℕ
row_lines lit = flat_map (row_line lit) (range_with_len 0 64)

unfoldable pub screen_of : State → List ℕ
screen_of s = size_name s.core.high ++ 10 ∷ [] ++ row_lines s.core.lit ++ full_stop
