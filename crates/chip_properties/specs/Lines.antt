-- The lines that state properties (chosen by this project).
use Rattle.std.specs.Prelude.{◌≡◌, ◌≤◌, ◌⊎◌, ℕ, length, ◌+◌, ◌-◌, ◌==◌, ◌&&◌, if◌then◌else◌, List, [], ◌∷◌, Option, Some, None, drop, filter_map, option_map, reverse, take}
use Rattle.std.specs.List.{prefix_len}
use Rattle.chip_lang.specs.Token.{is_blank}
use Rattle.chip_lang.specs.Line.{lexemes_of}
use Rattle.chip_asm.specs.LineViews.{LineFacts, line_at, line_facts}
use Rattle.chip_symbols.specs.Names.{values_of}
use Rattle.chip_asm.specs.Program.{symbols_of}
use Rattle.chip_properties.specs.declared.fault.PropertyFault.{PropertyFault}
use Rattle.chip_properties.specs.declared.limits.TheConstants.{MOST_PROPERTIES}
use Rattle.chip_properties.specs.declared.stated.Stated.{Stated}
use Rattle.chip_properties.specs.Language.{IsStated, StateNothing}
use Rattle.chip_properties.specs.SeenProperty.{seen_property}
use Rattle.chip_properties.specs.Tokens.{property_tokens}
use Rattle.chip_lang.specs.declared.lexeme.Lexeme.{Lexeme}
use Rattle.chip_lang.specs.declared.lexeme.Lexeme.TheVariants.{Word}

-- bytes without the blanks at the front
abbrev pub without_blanks : List ℕ → List ℕ
without_blanks bytes = drop (prefix_len is_blank bytes) bytes

-- bytes without the blanks at both ends
abbrev pub trimmed : List ℕ → List ℕ
trimmed bytes = reverse (without_blanks (reverse (without_blanks bytes)))

-- the index after `;!`, if `;!` follows this many blanks
abbrev pub after_mark : ℕ → List ℕ → Option ℕ
after_mark blanks [] = None
after_mark blanks (a ∷ []) = None
after_mark blanks (a ∷ b ∷ bytes) = if a == 59 && b == 33 then Some (blanks + 2) else None

-- the place in a line at which the text of a property begins, after `;!`; none if the first bytes other
-- than blanks aren't `;!`
abbrev pub mark_end : List ℕ → Option ℕ
mark_end line = after_mark (prefix_len is_blank line) (without_blanks line)

-- the text of a property, without blanks at both ends
abbrev pub property_text_of : List ℕ → Option (List ℕ)
property_text_of line = option_map (λ end. trimmed (drop end line)) (mark_end line)

abbrev pub word_of : Lexeme → Option (List ℕ)
word_of (Word w) = Some w
word_of t = None

abbrev pub words_after : List ℕ → Option ℕ → List (List ℕ)
words_after line None = []
words_after line (Some end) = filter_map word_of (lexemes_of (drop end line))

-- the words of the property on a line
abbrev pub words_in : List ℕ → List (List ℕ)
words_in line = words_after line (mark_end line)

-- the place in the text of an active line at which its property begins
abbrev pub property_start : LineFacts → Option ℕ
property_start f = if f.active then mark_end f.text else None

-- a line of a source states a property, whose text begins at a place in the line
pub record States (lines : List (List ℕ)) (number start : ℕ) (f : LineFacts) : Type 0 where
  pub there : line_at lines number ≡ Some f
  pub begins : property_start f ≡ Some start

-- the statement of a line of a source, given the names that have values at that line
pub record IsStatedOn (lines : List (List ℕ)) (s : Stated) : Type 0 where
  pub start : ℕ
  pub facts : LineFacts
  pub on : States lines s.line start facts
  pub states : IsStated (values_of (symbols_of lines)) (Some facts.address)
      (property_tokens (drop start facts.text)) s.kind (seen_property s.property)

-- a fault lies at bytes of the line with a number
pub record StandsAt (number : ℕ) (line : List ℕ) (fault : PropertyFault) : Type 0 where
  pub there : fault.line ≡ number
  pub rises : fault.span.start ≤ fault.span.end
  pub inside : fault.span.end ≤ length line

-- the number of lines that state a property, among the first `count` lines of a source
abbrev pub count_in : List (List ℕ) → ℕ → ℕ
count_in lines count = length (filter_map property_start (take count (line_facts lines)))

-- a fault is on a line of a source whose tokens state nothing, given the names that have values at
-- that line. After MOST_PROPERTIES properties, each further line with a property also has a fault.
pub record StandsOn (lines : List (List ℕ)) (fault : PropertyFault) : Type 0 where
  pub start : ℕ
  pub facts : LineFacts
  pub on : States lines fault.line start facts
  pub at : StandsAt fault.line facts.text fault
  pub unread : StateNothing (values_of (symbols_of lines)) (Some facts.address)
      (property_tokens (drop start facts.text)) ⊎ (MOST_PROPERTIES ≤ count_in lines (fault.line - 1))
