-- The command on a line of a script (chosen by this project).
use Rattle.std.specs.Prelude.{ℕ, ◌&&◌, ◌==◌, not, Bool, true, false, List, [], ◌∷◌, ◌++◌, length, nat_lt, nat_le, Option, Some, None, Result, Ok, Err, if◌then◌else◌, codes}
use Rattle.std.specs.Char.{is_digit}
use Rattle.std.specs.Str.{bytes_eq}
use Rattle.std.specs.Str.Parse.{digits_value}
use Rattle.std.specs.List.{list_all, before_first, after_first}
use Rattle.chip_session.specs.declared.limits.TheConstants.{COMMAND_BYTES}
use Rattle.chip_session.specs.Session.{Text, Edit, insert_line, replace_line, delete_line, insert_event, replace_event, delete_event}
use Rattle.chip_session.specs.declared.question.Question.{Question}
use Rattle.chip_session.specs.declared.question.Question.TheVariants.{Image, Symbols, Listing, Faults, Registers, Memory, Screen, Disassembly}
use Rattle.chip_session.specs.declared.command.CommandFault.{CommandFault}
use Rattle.chip_session.specs.declared.command.CommandFault.TheVariants.{Unknown, TooLong}

pub data Command : Type 0 where
  blank : Command
  edit : Edit → Command
  ask : Question → Command

abbrev pub is_space : ℕ → Bool
is_space byte = byte == 32

abbrev pub skip_spaces : Text → Text
skip_spaces [] = []
skip_spaces (byte ∷ text) = if is_space byte then skip_spaces text else byte ∷ text

-- the number that a text of 1 to `most` digits spells in a base
abbrev pub numeral : ℕ → ℕ → Text → Option ℕ
numeral base most digits =
    if nat_lt 0 (length digits) && nat_le (length digits) most
    && list_all (λ byte. is_digit byte base) digits then Some (digits_value base digits)
    else None

-- a number: 1 to 9 decimal digits, or `#` and 1 to 7 hexadecimal digits of either case
abbrev pub number_spelled : Text → Option ℕ
number_spelled [] = None
number_spelled (byte ∷ word) = if byte == 35 then numeral 16 7 word else numeral 10 9 (byte ∷ word)

-- the first word of the operands; `next_words` is the text after that word and its spaces
abbrev pub first_word : Text → Text
first_word operands = before_first is_space operands

abbrev pub next_words : Text → Text
next_words operands = skip_spaces (after_first is_space operands)

abbrev pub is_empty : Text → Bool
is_empty text = length text == 0

-- the number at the start of the operands
abbrev pub front_number : Text → Option ℕ
front_number operands = number_spelled (first_word operands)

-- a single number
unfoldable pub one_number : Text → Option ℕ
one_number operands = if is_empty (next_words operands) then front_number operands else None

abbrev pub paired : {A : Type 0} → Option ℕ → Option A → Option (ℕ × A)
paired None rest = None
paired (Some n) None = None
paired (Some n) (Some x) = Some (n, x)

-- exactly two numbers
unfoldable pub two_numbers : Text → Option (ℕ × ℕ)
two_numbers operands = paired (front_number operands) (one_number (next_words operands))

-- exactly three numbers
unfoldable pub three_numbers : Text → Option (ℕ × (ℕ × ℕ))
three_numbers operands = paired (front_number operands) (two_numbers (next_words operands))

-- the single word `down` or `up`
unfoldable pub key_state : Text → Option Bool
key_state operands =
    if not (is_empty (next_words operands)) then None
    else if bytes_eq (first_word operands) (codes "down") then Some true
    else if bytes_eq (first_word operands) (codes "up") then Some false
    else None

-- exactly a step, a key and the key's state
unfoldable pub key_event : Text → Option (ℕ × (ℕ × Bool))
key_event operands =
    paired (front_number operands)
    (paired (front_number (next_words operands)) (key_state (next_words (next_words operands))))

-- the command built from a value; without a value, the line is not a command
abbrev pub made : {A : Type 0} → (A → Command) → Option A → Result Command CommandFault
made command None = Err Unknown
made command (Some x) = Ok (command x)

-- The operands that a command takes, and how the command is built from them.
pub data Syntax : Type 0 where
  nothing : Question → Syntax
  one : (ℕ → Command) → Syntax
  two : (ℕ → ℕ → Command) → Syntax
  three : (ℕ → ℕ → ℕ → Command) → Syntax
  -- a step, a key and the key's state
  event : (ℕ → ℕ → Bool → Command) → Syntax
  -- a number, one space, and the whole text after it
  line_text : (ℕ → Text → Command) → Syntax

-- the command built from operands of this shape, which begin after the spaces that follow the word
abbrev pub read_by : Syntax → Text → Result Command CommandFault
read_by (nothing question) operands = if is_empty operands then Ok (ask question) else Err Unknown
read_by (one command) operands = made command (one_number operands)
read_by (two command) operands = made (λ n. command n.0 n.1) (two_numbers operands)
read_by (three command) operands = made (λ n. command n.0 n.1.0 n.1.1) (three_numbers operands)
read_by (event command) operands = made (λ e. command e.0 e.1.0 e.1.1) (key_event operands)
read_by (line_text command) operands =
    made (λ n. command n (after_first is_space operands)) (front_number operands)

-- a row of the table of commands: a word and its operands
abbrev pub CommandRow : Type 0
CommandRow = Text × Syntax

unfoldable pub line_edits : List CommandRow
line_edits =
    (codes "ins", line_text (λ n text. edit (insert_line n text)))
    ∷ (codes "rep", line_text (λ n text. edit (replace_line n text)))
    ∷ (codes "del", one (λ n. edit (delete_line n)))
    ∷ []

unfoldable pub key_edits : List CommandRow
key_edits =
    (codes "kins", event (λ step key down. edit (insert_event step key down)))
    ∷ (codes "krep", event (λ step key down. edit (replace_event step key down)))
    ∷ (codes "kdel", two (λ step key. edit (delete_event step key)))
    ∷ []

unfoldable pub source_questions : List CommandRow
source_questions =
    (codes "image", nothing Image)
    ∷ (codes "syms", nothing Symbols)
    ∷ (codes "list", nothing Listing)
    ∷ (codes "faults", nothing Faults)
    ∷ []

unfoldable pub machine_questions : List CommandRow
machine_questions =
    (codes "regs", one (λ step. ask (Registers step)))
    ∷ (codes "mem", three (λ step at count. ask (Memory step at count)))
    ∷ (codes "screen", one (λ step. ask (Screen step)))
    ∷ (codes "dis", three (λ step at count. ask (Disassembly step at count)))
    ∷ []

-- the command of the first row with this word
abbrev pub command_in : List CommandRow → Text → Text → Result Command CommandFault
command_in [] word operands = Err Unknown
command_in (row ∷ rows) word operands =
    if bytes_eq word row.0 then read_by row.1 operands else command_in rows word operands

-- the command for a first word and the text after that word and its spaces
abbrev pub worded : Text → Text → Result Command CommandFault
worded = command_in (line_edits ++ (key_edits ++ (source_questions ++ machine_questions)))

unfoldable pub command_of : Text → Result Command CommandFault
command_of line =
    if nat_lt COMMAND_BYTES (length line) then Err TooLong
    else if list_all is_space line then Ok blank
    else worded (before_first is_space line) (skip_spaces (after_first is_space line))
