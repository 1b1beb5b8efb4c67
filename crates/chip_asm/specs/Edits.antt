-- Edits of the lines of a source: when an edit is refused, and which place each line had before it
-- (chosen by this project). Line numbers count from 1, places from 0.
use Rattle.std.specs.Prelude.{ℕ, ◌+◌, ◌-◌, ◌&&◌, ◌||◌, not, ◌==◌, Bool, List, nat_lt, nat_le, nat_eq, Option, Some, None, if◌then◌else◌}
use Rattle.std.specs.List.{list_any}
use Rattle.chip_asm.specs.declared.limits.TheConstants.{MOST_LINES}
use Rattle.chip_asm.specs.declared.refusal.Refusal.{Refusal}
use Rattle.chip_asm.specs.declared.refusal.Refusal.TheVariants.{NoSuchLine, TextTooLong, TooManyLines, LineBreak}
use Rattle.chip_asm.specs.Lines.{is_long}

-- true for the numbers from 1 to n
abbrev pub is_number_to : ℕ → ℕ → Bool
is_number_to n number = nat_lt 0 number && nat_lt number (n + 1)

abbrev pub has_line_break : List ℕ → Bool
has_line_break text = list_any (λ byte. (byte == 10) || (byte == 13)) text

-- the first reason why a text can't be inserted before the line with this number, if there are
-- `count` lines
abbrev pub insert_refusal : ℕ → ℕ → List ℕ → Option Refusal
insert_refusal count number text =
    if not (is_number_to (count + 1) number) then Some NoSuchLine
    else if is_long text then Some TextTooLong
    else if nat_le MOST_LINES count then Some TooManyLines
    else if has_line_break text then Some LineBreak
    else None

-- the first reason why a text can't replace the line with this number, if there are `count` lines
abbrev pub replace_refusal : ℕ → ℕ → List ℕ → Option Refusal
replace_refusal count number text =
    if not (is_number_to count number) then Some NoSuchLine
    else if is_long text then Some TextTooLong
    else if has_line_break text then Some LineBreak
    else None

-- the reason why the line with this number can't be removed, if there are `count` lines
abbrev pub delete_refusal : ℕ → ℕ → Option Refusal
delete_refusal count number = if is_number_to count number then None else Some NoSuchLine

-- the place that the line at a place had before a line was inserted at `at`; none for the new line
abbrev pub before_insert : ℕ → ℕ → Option ℕ
before_insert at place =
    if nat_lt place at then Some place else (if nat_eq place at then None else Some (place - 1))

-- the place that the line at a place had before the line at `at` was replaced; none for the new line
abbrev pub before_replace : ℕ → ℕ → Option ℕ
before_replace at place = if nat_eq place at then None else Some place

-- the place that the line at a place had before the line at `at` was removed
abbrev pub before_delete : ℕ → ℕ → Option ℕ
before_delete at place = if nat_lt place at then Some place else Some (place + 1)
