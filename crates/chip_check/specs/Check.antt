-- The faults and warnings of a source as compilers print them: place, sentence, line and marks, and below them lines
-- of help. Only the beginnings of the lines of help are stated (chosen by this project).
use Rattle.std.specs.Prelude.{◌≡◌, ℕ, ◌+◌, ◌-◌, ◌==◌, ◌&&◌, Bool, true, false, List, [], ◌∷◌, ◌++◌, drop, length, nat_le, take, if◌then◌else◌, Option, Some, None, codes}
use Rattle.std.specs.Fmt.{decimal}
use Rattle.std.specs.List.{flat_map, position_or_len}
use Rattle.chip_lang.specs.declared.fault.Fault.{Fault}
use Rattle.chip_lang.specs.declared.fault.Fault.TheVariants.{BadCharacter, UnfinishedString, UnknownWord, WrongOperands, NumberTooLarge, TooDeep, BadName, DefinedTwice, UndefinedName, OutOfRange, DivisionByZero, Overflow, OrgBelowHere, PastMemory, StrayBranch, UnclosedIf, NotInProfile}
use Rattle.chip_lang.specs.declared.fault_place.Span.{Span}
use Rattle.chip_lang.specs.FaultNumber.{number_of_fault}
use Rattle.chip_lang.specs.FaultPlace.{mnemonic_of}
use Rattle.chip_lang.specs.Token.{is_between}
use Rattle.chip_asm.specs.LineViews.{LineFacts, line_at}
use Rattle.chip_asm.specs.Program.{fault_at}
use Rattle.chip_asm.specs.Lines.{is_newline}
use Rattle.chip_check.specs.declared.hint.Hint.{Hint}
use Rattle.chip_check.specs.declared.hint.HintKind.{HintKind}
use Rattle.chip_check.specs.declared.hint.HintKind.TheVariants.{Help, Note}
use Rattle.chip_check.specs.declared.quoted.ShownByte.{ShownByte}
use Rattle.chip_check.specs.declared.quoted.ShownByte.TheVariants.{Plain, Escaped}
use Rattle.chip_check.specs.Place.{place_in}
use Rattle.chip_check.specs.Quoted.{quoted_line, shown_bytes}
use Rattle.chip_warnings.specs.Warnings.{letter_of_warning, number_of_warning}
use Rattle.chip_warnings.specs.declared.warning.Warning.{Warning}
use Rattle.chip_warnings.specs.declared.warning.WarningCode.{WarningCode}

unfoldable pub sentence_of : Fault → List ℕ
sentence_of BadCharacter = codes "bad character"
sentence_of UnfinishedString = codes "unfinished string"
sentence_of UnknownWord = codes "unknown word"
sentence_of WrongOperands = codes "operands don't fit"
sentence_of NumberTooLarge = codes "number above 2147483647"
sentence_of TooDeep = codes "parentheses deeper than 16"
sentence_of BadName = codes "name reserved or over 64 bytes"
sentence_of DefinedTwice = codes "name defined on an earlier line"
sentence_of UndefinedName = codes "undefined name"
sentence_of OutOfRange = codes "value out of range"
sentence_of DivisionByZero = codes "division by zero"
sentence_of Overflow = codes "overflow, or a shift outside 0 to 31"
sentence_of OrgBelowHere = codes "ORG below the line's address"
sentence_of PastMemory = codes "past address 4096"
sentence_of StrayBranch = codes "stray ELSE or ENDIF"
sentence_of UnclosedIf = codes "IF without ENDIF"
sentence_of NotInProfile = codes "not in this profile"

-- the sentence for a fault; for operands that don't fit, it names the instruction if there is one
unfoldable pub sentence_with : Fault → Option (List ℕ) → List ℕ
sentence_with WrongOperands (Some mnemonic) = codes "the operands fit no form of " ++ mnemonic
sentence_with fault mnemonic = sentence_of fault

-- the code of a fault, as in listings
abbrev pub code_of : Fault → List ℕ
code_of fault = codes "F" ++ decimal (number_of_fault fault)

-- Painting a part of a text: its style comes first, and a reset after it. A style is a list of numbers of
-- ECMA-48's Select Graphic Rendition; 27 is ESC.
abbrev pub opening : (is_painted : Bool) (style : List ℕ) → List ℕ
opening false style = []
opening true style = 27 ∷ codes "[" ++ style ++ codes "m"

abbrev pub closing : (is_painted : Bool) → List ℕ
closing false = []
closing true = 27 ∷ codes "[0m"

abbrev pub painted : (is_painted : Bool) (style text : List ℕ) → List ℕ
painted is_painted style text = opening is_painted style ++ text ++ closing is_painted

-- the style of a code: bold and yellow for a warning such as `W1`, and bold and red for a fault
abbrev pub code_style : (code : List ℕ) → List ℕ
code_style [] = codes "1;31"
code_style (c ∷ cs) = if c == 87 then codes "1;33" else codes "1;31"

-- the style of marks: bold and blue
abbrev pub mark_style : List ℕ
mark_style = codes "1;34"

-- file, line and column (both counted from 1, the column in bytes), code and sentence
unfoldable pub head : (is_painted : Bool) (name : List ℕ) (number : ℕ) → Span
    → (code sentence : List ℕ) → List ℕ
head is_painted name number span code sentence =
    name ++ codes ":" ++ decimal number ++ codes ":" ++ decimal (span.start + 1) ++ codes ": "
    ++ painted is_painted (code_style code) code ++ codes ": " ++ sentence ++ codes "\n"

-- the blanks below a byte before the place: a tab below a tab, none below a further byte of a character in UTF-8,
-- and four below an escape
abbrev pub blank_of : ShownByte → List ℕ
blank_of (Plain b) = if b == 9 then 9 ∷ [] else (if is_between 128 191 b then [] else 32 ∷ [])
blank_of (Escaped b) = codes "    "

-- the tildes below a byte of the place: four below an escape, and one below another byte
abbrev pub tildes_of : ShownByte → List ℕ
tildes_of (Plain b) = codes "~"
tildes_of (Escaped b) = codes "~~~~"

-- the mark below the bytes of a place: tildes, with a caret instead of the first one
abbrev pub mark_text : List ShownByte → List ℕ
mark_text [] = codes "^"
mark_text (first ∷ others) = codes "^" ++ drop 1 (tildes_of first) ++ flat_map tildes_of others

-- the line of marks: blanks, and the mark below the place of the line
unfoldable pub marks : (is_painted : Bool) (shown : List ShownByte) → Span → List ℕ
marks is_painted shown span =
    flat_map blank_of (take span.start shown)
    ++ painted is_painted mark_style (mark_text (take (span.end - span.start) (drop span.start shown)))
    ++ codes "\n"

-- the word that a line of help begins with
abbrev pub beginning : HintKind → List ℕ
beginning Help = codes "help:"
beginning Note = codes "note:"

-- the style of that word: bold and green for help, and bold and cyan for a note
abbrev pub hint_style : HintKind → List ℕ
hint_style Help = codes "1;32"
hint_style Note = codes "1;36"

-- a line of help: its beginning, and its sentence up to the first newline
abbrev pub hint_line : (is_painted : Bool) → Hint → List ℕ
hint_line is_painted hint =
    painted is_painted (hint_style hint.kind) (beginning hint.kind) ++ codes " "
    ++ take (position_or_len is_newline hint.sentence.items) hint.sentence.items ++ codes "\n"

-- A way to print a place of a line, given the line's number and text, the place, the code, the sentence, and
-- lines of help.
abbrev pub Print : Type 0
Print = (number : ℕ) (line : List ℕ) → Span → (code sentence : List ℕ) → List Hint → List ℕ

-- printing as text: the head, the line with its escapes, the marks below the place, and the lines of help; the line
-- itself is never painted
unfoldable pub report : (is_painted : Bool) (name : List ℕ) → Print
report is_painted name number line span code sentence hints =
    head is_painted name number span code sentence ++ quoted_line line ++ codes "\n"
    ++ marks is_painted (shown_bytes line) span ++ flat_map (hint_line is_painted) hints

-- the text for a line: its fault with some lines of help, or nothing if it has no fault
abbrev pub report_of : Print → (all : List (List ℕ)) (number : ℕ) (line : List ℕ)
    → Option Fault → (hints : List Hint) → List ℕ
report_of print all number line None hints = []
report_of print all number line (Some fault) hints =
    print number line (place_in fault all number line) (code_of fault)
    (sentence_with fault (mnemonic_of line)) hints

-- whether a text is the text for the lines from `number` on: that of the first line, with some lines of help, and
-- then that of the others
abbrev pub AreReports : Print → (all : List (List ℕ)) (number : ℕ) → (lines : List (List ℕ))
    → (text : List ℕ) → Type 0
AreReports print all number [] text = text ≡ []
AreReports print all number (line ∷ lines) text =
    (hints : List Hint) × (others : List ℕ)
    × (text ≡ report_of print all number line (fault_at all number) hints ++ others)
    × AreReports print all (number + 1) lines others

-- the code of a warning: the letter W or P, and a number
abbrev pub warning_code : WarningCode → List ℕ
warning_code code = letter_of_warning code ∷ decimal (number_of_warning code)

-- whether a place lies in a line
abbrev pub is_inside : Span → (line : List ℕ) → Bool
is_inside span line = nat_le span.start span.end && nat_le span.end (length line)

-- the text for a warning of a line, with these lines of help; empty if the warning's place doesn't lie in the line
abbrev pub warning_text : Print → (line : List ℕ) → Warning → List Hint → List ℕ
warning_text print line w hints =
    if is_inside w.span line then print w.line line w.span (warning_code w.code) w.sentence.items hints
    else []

-- whether a text is the text for a warning of a line, with some lines of help; empty if there is no such line
abbrev pub IsWarningText : Print → Option LineFacts → Warning → (text : List ℕ) → Type 0
IsWarningText print None w text = text ≡ []
IsWarningText print (Some line) w text = (hints : List Hint) × (text ≡ warning_text print line.text w hints)

-- whether a text consists of a part for each element of a list, in the order of the list
abbrev pub AreTexts : {X : Type 0} → (IsText : X → List ℕ → Type 0) → List X → (text : List ℕ) → Type 0
AreTexts IsText [] text = text ≡ []
AreTexts IsText (one ∷ more) text =
    (first others : List ℕ) × (text ≡ first ++ others) × IsText one first × AreTexts IsText more others

-- whether a text is the text for some warnings of a source, one after another
abbrev pub AreWarnings : Print → (lines : List (List ℕ)) → List Warning → (text : List ℕ) → Type 0
AreWarnings print lines warnings text =
    AreTexts (λ (w : Warning). IsWarningText print (line_at lines w.line) w) warnings text

-- whether a text is the text for a source: that for its faults, in the order of the lines, and then that for these
-- warnings
pub record IsCheckedIn (print : Print) (lines : List (List ℕ)) (warnings : List Warning) (text : List ℕ)
    : Type 0 where
  pub reports : List ℕ
  pub others : List ℕ
  pub faults : AreReports print lines 1 lines reports
  pub warned : AreWarnings print lines warnings others
  pub is : text ≡ reports ++ others

-- whether a text is the reports of a source's faults, and then those of these warnings
abbrev pub IsChecked : (is_painted : Bool) (name : List ℕ) (lines : List (List ℕ))
    (warnings : List Warning) (text : List ℕ) → Type 0
IsChecked is_painted name lines warnings text = IsCheckedIn (report is_painted name) lines warnings text
