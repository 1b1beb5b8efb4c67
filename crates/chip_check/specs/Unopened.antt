-- The reason why a source doesn't open, as compilers print it and as JSON (chosen by this project).
-- The line isn't quoted, because it may contain a million bytes.
use Rattle.std.specs.Prelude.{ℕ, ◌+◌, Bool, List, [], ◌++◌, codes}
use Rattle.std.specs.Fmt.{decimal}
use Rattle.chip_lang.specs.declared.fault_place.Span.{Span}
use Rattle.chip_asm.specs.declared.limits.TheConstants.{LINE_BYTES, MOST_LINES}
use Rattle.chip_asm.specs.declared.refusal.OpenError.{OpenError}
use Rattle.chip_asm.specs.declared.refusal.OpenError.TheVariants.{LineTooLong, TooManyLines, OutOfMemory}
use Rattle.chip_check.specs.declared.hint.HintKind.TheVariants.{Help}
use Rattle.chip_check.specs.Check.{beginning, head, hint_style, painted}
use Rattle.chip_check.specs.Json.{object_with, quoted}

-- the number of the first line that is too long or one too many; 1 if memory ran out
abbrev pub unopened_line : OpenError → ℕ
unopened_line (LineTooLong number) = number
unopened_line TooManyLines = MOST_LINES + 1
unopened_line OutOfMemory = 1

-- the first byte beyond the limit in a line that is too long; otherwise the beginning of the line
abbrev pub unopened_place : OpenError → Span
unopened_place (LineTooLong number) = record { start = LINE_BYTES; end = LINE_BYTES + 1 }
unopened_place _ = record { start = 0; end = 0 }

-- the code, the sentence and the line of help; each is empty if memory ran out
abbrev pub unopened_code : OpenError → List ℕ
unopened_code (LineTooLong number) = codes "O1"
unopened_code TooManyLines = codes "O2"
unopened_code OutOfMemory = []

abbrev pub unopened_sentence : OpenError → List ℕ
unopened_sentence (LineTooLong number) =
    codes "line too long (at most " ++ decimal LINE_BYTES ++ codes " bytes)"
unopened_sentence TooManyLines = codes "too many lines (at most " ++ decimal MOST_LINES ++ codes ")"
unopened_sentence OutOfMemory = []

abbrev pub unopened_help : OpenError → List ℕ
unopened_help (LineTooLong number) =
    codes "split the data over two lines, with ALIGN OFF above them where it must stay together, or shorten the comment"
unopened_help TooManyLines =
    codes "put more values on each line of data, or remove empty lines and comments"
unopened_help OutOfMemory = []

-- the report as text: the head, and the line of help
abbrev pub unopened_report : (is_painted : Bool) (name : List ℕ) → OpenError → List ℕ
unopened_report is_painted name fault =
    head is_painted name (unopened_line fault) (unopened_place fault) (unopened_code fault)
    (unopened_sentence fault)
    ++ (painted is_painted (hint_style Help) (beginning Help) ++ codes " " ++ unopened_help fault
    ++ codes "\n")

-- the report as JSON: the object of that place
abbrev pub unopened_object : (name : List ℕ) → OpenError → List ℕ
unopened_object name fault =
    object_with name (unopened_line fault) (unopened_place fault) (unopened_code fault)
    (unopened_sentence fault) (quoted (unopened_help fault))
