-- The parts of a line that matter to the lines around it (chosen by this project).
use Rattle.std.specs.Prelude.{ℕ, ◌+◌, ◌*◌, ◌%◌, ◌==◌, ◌&&◌, not, Bool, true, false, if◌then◌else◌, is_some, List, [], ◌∷◌, ◌++◌, length, map, Option, Some, None}
use Rattle.std.specs.List.{list_any, flat_map}
use Rattle.std.specs.Str.{bytes_eq}
use Rattle.chip_lang.specs.declared.limits.TheConstants.{IMAGE_START}
use Rattle.chip_lang.specs.Line.{Body, equ, org, ds, db, dw, da, code, define, ifdef, ifund, Reading, bad, read, reading_of}
use Rattle.chip_lang.specs.Decoding.{decode_of}
use Rattle.chip_lang.specs.Uses.{name_defined, names_used}
use Rattle.chip_lang.specs.declared.instr.Instr.{Instr}
use Rattle.chip_asm.specs.LineViews.{LineFacts, line_facts}
use Rattle.chip_properties.specs.Lines.{words_in}
use Rattle.chip_warnings.specs.Instructions.{draws}
use Rattle.chip_warnings.specs.declared.seen.Says.{Says}
use Rattle.chip_warnings.specs.declared.seen.Says.TheVariants.{Nothing, Code, Rows, PerhapsCode, Data}
use Rattle.chip_warnings.specs.declared.seen.Seen.{Seen}

-- ---- the kind of a line's bytes

-- the word formed by the first two bytes, or 0 if there are fewer
abbrev pub first_word : List ℕ → ℕ
first_word [] = 0
first_word (a ∷ []) = 0
first_word (high ∷ low ∷ bytes) = high * 256 + low

-- The kind of bytes that begin with `word`, given their statement. SYS, the form whose word is 0, might be executed,
-- and so might a DW whose first word is a valid instruction. Both are `PerhapsCode`.
abbrev pub says_by_body : Body → (word : ℕ) → Says
says_by_body (code form operands) word = if form.base == 0 then PerhapsCode else Code form.base word
says_by_body (db values) word = Rows (length values)
says_by_body (dw values) word = if is_some (decode_of word) then PerhapsCode else Data
says_by_body (da bytes) word = Data
says_by_body (ds size) word = Data
says_by_body body word = Nothing

-- the kind of a line's bytes; `Nothing` if the line has no bytes
abbrev pub says_by_reading : Reading → (bytes : List ℕ) → Says
says_by_reading (bad fault) bytes = Nothing
says_by_reading (read name body) [] = Nothing
says_by_reading (read name body) (b ∷ bytes) = says_by_body body (first_word (b ∷ bytes))

-- the kind of the bytes of a line in a source; `Nothing` if the line isn't active
abbrev pub says_of : LineFacts → Says
says_of f = if f.active then says_by_reading (reading_of f.text) f.bytes else Nothing

-- whether bytes are an instruction
abbrev pub is_code : Says → Bool
is_code (Code base word) = true
is_code says = false

-- the word of the instruction's form, if the bytes are an instruction
abbrev pub base_of : Says → Option ℕ
base_of (Code base word) = Some base
base_of says = None

-- whether there is an instruction, and a condition holds for it
abbrev pub holds_of : (holds : Option Instr → Bool) → Option ℕ → Bool
holds_of holds None = false
holds_of holds (Some base) = holds (decode_of base)

-- whether bytes are an instruction that draws a random byte
abbrev pub is_draw : Says → Bool
is_draw (Code base word) = draws (decode_of word)
is_draw says = false

-- the address in the instruction's word, or 0 if the bytes aren't an instruction
abbrev pub target_of : Says → ℕ
target_of (Code base word) = word % 4096
target_of says = 0

-- whether bytes are data
abbrev pub is_data : Says → Bool
is_data (Rows count) = true
is_data Data = true
is_data says = false

-- ---- labels and ORG

abbrev pub begins_by_body : (name : Option (List ℕ)) → Body → Bool
begins_by_body name (org e) = true
begins_by_body name (equ e) = false
begins_by_body name define = false
begins_by_body name body = is_some name

-- whether a line has a label or ORG
abbrev pub begins : Reading → Bool
begins (bad fault) = false
begins (read name body) = begins_by_body name body

-- ---- names that are never used

-- the name after IFDEF or IFUND
abbrev pub names_asked_by_body : Body → List (List ℕ)
names_asked_by_body (ifdef name) = name ∷ []
names_asked_by_body (ifund name) = name ∷ []
names_asked_by_body body = []

abbrev pub names_asked : Reading → List (List ℕ)
names_asked (bad fault) = []
names_asked (read name body) = names_asked_by_body body

-- The names that a line uses, whether the line is active or not: the names in its expressions, the name after IFDEF or
-- IFUND, and the names in the property that the line states.
abbrev pub names_of_line : List ℕ → List (List ℕ)
names_of_line text =
    names_used (reading_of text) ++ (names_asked (reading_of text) ++ words_in text)

-- whether some line of a source uses a name
unfoldable pub is_used : (texts : List (List ℕ)) → (name : List ℕ) → Bool
is_used texts name = list_any (bytes_eq name) (flat_map names_of_line texts)

-- whether a name is meant to stay even if no line uses it: it begins with `_`
abbrev pub is_meant : List ℕ → Bool
is_meant [] = false
is_meant (b ∷ bytes) = b == 95

-- whether there is a name, no line uses it, and it isn't meant to stay
abbrev pub is_needless : (texts : List (List ℕ)) → Option (List ℕ) → Bool
is_needless texts None = false
is_needless texts (Some name) = not (is_used texts name) && not (is_meant name)

-- whether a line has a label or ORG and is at the start of the image
abbrev pub starts_image : LineFacts → Bool
starts_image f = begins (reading_of f.text) && f.address == IMAGE_START

-- whether an active line defines a name that is never used; a label at the start of the image counts as used
abbrev pub is_unused : (texts : List (List ℕ)) → LineFacts → Bool
is_unused texts f =
    f.active && is_needless texts (name_defined (reading_of f.text)) && not (starts_image f)

-- ---- the lines of a source

-- the parts of a line of a source that matter to the other lines
abbrev pub seen_of : (texts : List (List ℕ)) → LineFacts → Seen
seen_of texts f =
    record {
      number = f.number;
      address = f.address;
      begins = f.active && begins (reading_of f.text);
      unused = is_unused texts f;
      says = says_of f;
    }

-- all lines of a source
unfoldable pub seen_lines : (texts : List (List ℕ)) → List Seen
seen_lines texts = map (seen_of texts) (line_facts texts)
