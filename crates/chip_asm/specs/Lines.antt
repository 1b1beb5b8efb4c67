-- The lines of a source, and whether it opens (chosen by this project).
use Rattle.std.specs.Prelude.{ℕ, ◌+◌, ◌&&◌, ◌==◌, Bool, List, length, nat_lt, Option, Some, None, if◌then◌else◌}
use Rattle.std.specs.List.{position_or_len, before_first}
use Rattle.std.specs.Str.Lines.{lines, strip_carriage_return}
use Rattle.chip_asm.specs.declared.limits.TheConstants.{LINE_BYTES, MOST_LINES}
use Rattle.chip_asm.specs.declared.refusal.OpenError.{OpenError}
use Rattle.chip_asm.specs.declared.refusal.OpenError.TheVariants.{LineTooLong, TooManyLines}

-- the lines of some bytes: a newline ends a line, a carriage return directly before that newline is
-- dropped, and the bytes after the last newline are a line if there are any
abbrev pub lines_of : List ℕ → List (List ℕ)
lines_of bytes = lines bytes

abbrev pub is_long : List ℕ → Bool
is_long text = nat_lt LINE_BYTES (length text)

-- the fault of `count` lines; `first` is the index of the first line that is too long, or `count`
-- if no line is too long
abbrev pub fault_of_lines : ℕ → ℕ → Option OpenError
fault_of_lines first count =
    if nat_lt first count && nat_lt first MOST_LINES then Some (LineTooLong (first + 1))
    else if nat_lt MOST_LINES count then Some TooManyLines
    else None

-- the reason why a source doesn't open: the first line that is too long or exceeds the greatest
-- number of lines
abbrev pub open_fault : List ℕ → Option OpenError
open_fault source =
    fault_of_lines (position_or_len is_long (lines_of source)) (length (lines_of source))

-- Definitions for private functions:

abbrev pub is_newline : ℕ → Bool
is_newline byte = byte == 10

-- the text of the first line of bytes that aren't empty
abbrev pub first_text : List ℕ → List ℕ
first_text bytes =
    if nat_lt (position_or_len is_newline bytes) (length bytes)
    then strip_carriage_return (before_first is_newline bytes)
    else bytes
