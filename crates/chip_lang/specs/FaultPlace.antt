-- The place of a line's fault, that is, the tokens of the line at which it lies (chosen by this
-- project).
use Rattle.std.specs.Prelude.{ℕ, ◌+◌, ◌-◌, ◌&&◌, not, Bool, true, false, if◌then◌else◌, nat_lt, is_some, List, [], ◌∷◌, length, Option, Some, None, slice_get}
use Rattle.std.specs.List.{prefix_len}
use Rattle.chip_lang.specs.declared.fault.Fault.{Fault}
use Rattle.chip_lang.specs.declared.fault.Fault.TheVariants.{BadCharacter, UnfinishedString, UnknownWord, WrongOperands, NumberTooLarge, TooDeep, BadName, DefinedTwice, UndefinedName, OutOfRange, DivisionByZero, Overflow, OrgBelowHere, PastMemory, StrayBranch, UnclosedIf, NotInProfile}
use Rattle.chip_lang.specs.declared.directive.Directive.{Directive}
use Rattle.chip_lang.specs.declared.directive.Directive.TheVariants.{Equ, Org, Db, Dw, Ds}
use Rattle.chip_lang.specs.declared.fault_place.Place.{Place}
use Rattle.chip_lang.specs.declared.fault_place.Span.{Span}
use Rattle.chip_lang.specs.declared.lexeme.Lexeme.{Lexeme}
use Rattle.chip_lang.specs.declared.lexeme.Lexeme.TheVariants.{Word, Bad}
use Rattle.chip_lang.specs.declared.limits.TheConstants.{OPEN_PARENTHESES}
use Rattle.chip_lang.specs.declared.token.Token.{Token}
use Rattle.chip_lang.specs.Keyword.{directive_of}
use Rattle.chip_lang.specs.Line.{Shape, definition, statement, shape_of, is_sign_of, is_bad_name, takes_label, pieces, operand_of_tokens, lexeme_of, lexemes_of}
use Rattle.chip_lang.specs.computed.Parse.{expression_of}
use Rattle.chip_lang.specs.Reserved.{is_mnemonic, is_reserved}
use Rattle.chip_lang.specs.computed.Tokens.{tokens_of}

-- ---- tokens are counted from 0

-- the token with an index; if the line has no such token, the end of its last token
abbrev pub at : ℕ → Place
at index = record { first = index; wide = false }

-- the token with an index and all tokens after it
abbrev pub from : ℕ → Place
from index = record { first = index; wide = true }

-- ---- the parts of the table

abbrev pub is_bad : Lexeme → Bool
is_bad (Bad f) = true
is_bad t = false

-- the index of the leftmost bad token; the number of tokens if none is bad
abbrev pub leftmost_bad : List Lexeme → ℕ
leftmost_bad ts = prefix_len (λ t. not (is_bad t)) ts

-- the index of the parenthesis that makes more than OPEN_PARENTHESES open at once; the number of
-- tokens if none does
abbrev pub deepest : (opened closed : ℕ) → List Lexeme → ℕ
deepest opened closed [] = 0
deepest opened closed (t ∷ ts) =
    let opened_now = if is_sign_of 40 t then opened + 1 else opened in
    let closed_now = if is_sign_of 41 t then closed + 1 else closed in
    if nat_lt (closed_now + OPEN_PARENTHESES) opened_now then 0
    else deepest opened_now closed_now ts + 1

-- the index of the statement's first token, after a label and its colon; for a definition, the
-- index of its name. `count` is the number of the line's tokens
abbrev pub statement_at : (count : ℕ) → Shape → ℕ
statement_at count (definition w value) = 0
statement_at count (statement label ts) = count - length ts

-- the index of the first token after the statement's word; for a definition, after EQU or =
abbrev pub operands_at : (count : ℕ) → Shape → ℕ
operands_at count (definition w value) = count - length value
operands_at count (statement label ts) = count - length ts + 1

-- the index of the name that the line defines: the name of a definition, the label, or the word
-- after DEFINE
abbrev pub name_at : (count : ℕ) → Shape → ℕ
name_at count (definition w value) = 0
name_at count (statement (Some l) ts) = 0
name_at count (statement None ts) = count - length ts + 1

-- the index of the first word that the line defines and that can't be defined
abbrev pub bad_name_at : (count : ℕ) → Shape → ℕ
bad_name_at count (definition w value) = 0
bad_name_at count (statement None ts) = count - length ts + 1
bad_name_at count (statement (Some l) ts) = if is_bad_name l then 0 else count - length ts + 1

-- ---- operands that don't fit

-- true if a piece between commas is an operand or, for ORG, DS, DB and DW, an expression
abbrev pub is_fit : (values : Bool) → List Lexeme → Bool
is_fit true piece = is_some (expression_of piece)
is_fit false piece = is_some (operand_of_tokens piece)

-- the number of tokens before the first piece that doesn't fit, counting a comma after each piece;
-- more than the number of all tokens if each piece fits
abbrev pub before_misfit : (values : Bool) → List (List Lexeme) → ℕ
before_misfit values [] = 0
before_misfit values (p ∷ ps) =
    if is_fit values p then length p + 1 + before_misfit values ps else 0

-- the first operand that doesn't fit, or all operands if each fits by itself; `first` is the index
-- of the first operand's first token, and `count` is the number of the operands' tokens
abbrev pub misfit_from : (first count before : ℕ) → Place
misfit_from first count before = if nat_lt count before then from first else at (first + before)

abbrev pub misfit : (values : Bool) (first : ℕ) → List Lexeme → Place
misfit values first ts = misfit_from first (length ts) (before_misfit values (pieces ts))

abbrev pub takes_values : Directive → Bool
takes_values Org = true
takes_values Ds = true
takes_values Db = true
takes_values Dw = true
takes_values d = false

-- true for EQU without a name, and for a directive after a label if it takes none
abbrev pub is_misplaced : (labelled : Bool) → Directive → Bool
is_misplaced labelled Equ = true
is_misplaced labelled d = labelled && not (takes_label d)

-- the place of operands that don't fit, in a statement that begins with a word: the directive if it
-- is misplaced, or else the operands
abbrev pub wrong_in_word : (labelled : Bool) → Option Directive → (first : ℕ) → List Lexeme → Place
wrong_in_word labelled None first ts = misfit false (first + 1) ts
wrong_in_word labelled (Some d) first ts =
    if is_misplaced labelled d then at first
    else (if takes_values d then misfit true (first + 1) ts else from (first + 1))

-- the place of operands that don't fit, in a statement; if no word begins it, the first token
abbrev pub wrong_in_statement : (labelled : Bool) (first : ℕ) → List Lexeme → Place
wrong_in_statement labelled first (Word w ∷ ts) = wrong_in_word labelled (directive_of w) first ts
wrong_in_statement labelled first ts = at first

-- the place of operands that don't fit, in a line; for a definition, the value, which isn't an
-- expression
abbrev pub wrong : (count : ℕ) → Shape → Place
wrong count (definition w value) = from (count - length value)
wrong count (statement label ts) = wrong_in_statement (is_some label) (count - length ts) ts

-- ---- the table: the tokens at which each fault lies

abbrev pub place_of_fault : Fault → List Lexeme → Place
place_of_fault BadCharacter ts = at (leftmost_bad ts)
place_of_fault UnfinishedString ts = at (leftmost_bad ts)
place_of_fault NumberTooLarge ts = at (leftmost_bad ts)
place_of_fault TooDeep ts = at (deepest 0 0 ts)
place_of_fault BadName ts = at (bad_name_at (length ts) (shape_of ts))
place_of_fault DefinedTwice ts = at (name_at (length ts) (shape_of ts))
place_of_fault UnknownWord ts = at (statement_at (length ts) (shape_of ts))
place_of_fault NotInProfile ts = at (statement_at (length ts) (shape_of ts))
place_of_fault StrayBranch ts = at (statement_at (length ts) (shape_of ts))
place_of_fault UnclosedIf ts = at (statement_at (length ts) (shape_of ts))
place_of_fault PastMemory ts = at (statement_at (length ts) (shape_of ts))
place_of_fault OrgBelowHere ts = from (operands_at (length ts) (shape_of ts))
place_of_fault UndefinedName ts = from (operands_at (length ts) (shape_of ts))
place_of_fault OutOfRange ts = from (operands_at (length ts) (shape_of ts))
place_of_fault DivisionByZero ts = from (operands_at (length ts) (shape_of ts))
place_of_fault Overflow ts = from (operands_at (length ts) (shape_of ts))
place_of_fault WrongOperands ts = wrong (length ts) (shape_of ts)

-- ---- from tokens to bytes

abbrev pub end_of : Option Token → ℕ
end_of None = 0
end_of (Some t) = t.end

-- the part of a line from the start of the first token to its end or, if `wide`, to the end of the
-- line's last token; if there is no first token, the empty part after the last token
abbrev pub span_from : Option Token → (wide : Bool) (last : ℕ) → Span
span_from None wide last = record { start = last; end = last }
span_from (Some t) true last = record { start = t.start; end = last }
span_from (Some t) false last = record { start = t.start; end = t.end }

abbrev pub span_of_place : List Token → Place → Span
span_of_place ts p = span_from (slice_get ts p.first) p.wide (end_of (slice_get ts (length ts - 1)))

-- the part of a line at which one of its faults lies
unfoldable pub span_of_fault : Fault → List ℕ → Span
span_of_fault fault line = span_of_place (tokens_of line) (place_of_fault fault (lexemes_of line))

-- ---- the instruction of a line

abbrev pub mnemonic_at : List Lexeme → Option (List ℕ)
mnemonic_at (Word w ∷ ts) = if is_mnemonic w then Some w else None
mnemonic_at ts = None

abbrev pub mnemonic_in : Shape → Option (List ℕ)
mnemonic_in (definition w value) = None
mnemonic_in (statement label ts) = mnemonic_at ts

-- the mnemonic that the statement of a line begins with, in upper case; none if it begins with no
-- mnemonic
unfoldable pub mnemonic_of : List ℕ → Option (List ℕ)
mnemonic_of line = mnemonic_in (shape_of (lexemes_of line))

-- ---- the names of a line

abbrev pub name_in : Lexeme → Option (List ℕ)
name_in (Word w) = if is_reserved w then None else Some w
name_in t = None

-- the name that a token of a line spells, in upper case: a word that isn't reserved
abbrev pub name_of_token : (line : List ℕ) → Token → Option (List ℕ)
name_of_token line t = name_in (lexeme_of line t)
