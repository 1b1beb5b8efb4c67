-- The reading of a line: its label and its statement, or its first fault (Chipper manual; the order
-- of faults is chosen by this project).
use Rattle.std.specs.Prelude.{ℕ, ◌+◌, ◌-◌, ◌==◌, ◌&&◌, ◌||◌, not, Bool, true, false, if◌then◌else◌, nat_lt, is_some, is_none, List, [], ◌∷◌, ◌++◌, length, map, drop, Option, Some, None, option_map, option_and_then, codes, slice_range}
use Rattle.std.specs.List.{list_any}
use Rattle.std.specs.Str.{bytes_eq}
use Rattle.chip_lang.specs.declared.limits.TheConstants.{NAME_BYTES, OPEN_PARENTHESES}
use Rattle.chip_lang.specs.declared.fault.Fault.{Fault}
use Rattle.chip_lang.specs.declared.directive.Directive.{Directive}
use Rattle.chip_lang.specs.declared.directive.Directive.TheVariants.{Equ, Org, Align, Db, Dw, Da, Ds, Ifdef, Ifund, Else, Endif, End, Options, Used, Xref, Define, Include, Undef}
use Rattle.chip_lang.specs.declared.form.Special.{Special}
use Rattle.chip_lang.specs.declared.form.Special.TheVariants.{AtIndex}
use Rattle.chip_lang.specs.Keyword.{directive_of, special_of, register_of}
use Rattle.chip_lang.specs.Table.{Row}
use Rattle.chip_lang.specs.Form.{form_of}
use Rattle.chip_lang.specs.Operand.{Operand, register, special, expression}
use Rattle.chip_lang.specs.declared.fault.Fault.TheVariants.{UnknownWord, WrongOperands, TooDeep, BadName, NotInProfile}
use Rattle.chip_lang.specs.declared.token.Token.{Token}
use Rattle.chip_lang.specs.declared.token.Kind.{Kind}
use Rattle.chip_lang.specs.declared.token.Kind.TheVariants.{Word as word_kind, Number as number_kind, Text as text_kind, Sign as sign_kind, Bad as bad_kind}
use Rattle.chip_lang.specs.declared.lexeme.Lexeme.{Lexeme}
use Rattle.chip_lang.specs.declared.lexeme.Lexeme.TheVariants.{Word, Number, Text, Sign, Bad}
use Rattle.chip_lang.specs.Token.{is_between}
use Rattle.chip_lang.specs.computed.Tokens.{tokens_of}
use Rattle.chip_lang.specs.Tree.{Tree}
use Rattle.chip_lang.specs.computed.Parse.{expression_of}
use Rattle.chip_lang.specs.Reserved.{is_reserved, is_mnemonic}

-- a byte, in upper case if it is a letter
abbrev pub upper : ℕ → ℕ
upper b = if is_between 97 122 b then b - 32 else b

-- the contents of a token: a word in upper case, or a text without its quotes
abbrev pub lexeme_of_kind : List ℕ → Kind → Lexeme
lexeme_of_kind bytes word_kind = Word (map upper bytes)
lexeme_of_kind bytes (number_kind z) = Number z
lexeme_of_kind bytes text_kind = Text (slice_range bytes 1 (length bytes - 1))
lexeme_of_kind bytes (sign_kind c) = Sign c
lexeme_of_kind bytes (bad_kind f) = Bad f

abbrev pub lexeme_of : List ℕ → Token → Lexeme
lexeme_of line t = lexeme_of_kind (slice_range line t.start t.end) t.kind

abbrev pub lexemes_of : List ℕ → List Lexeme
lexemes_of line = map (lexeme_of line) (tokens_of line)

-- true for an empty line and for a line that begins with a semicolon: such a line is blank or only
-- a comment
abbrev pub shows_nothing : List ℕ → Bool
shows_nothing [] = true
shows_nothing (b ∷ bytes) = b == 59

-- ---- the parts of a line

-- true if a token is this word
abbrev pub is_the : List ℕ → Lexeme → Bool
is_the w (Word v) = bytes_eq w v
is_the w t = false

abbrev pub is_sign_of : ℕ → Lexeme → Bool
is_sign_of c (Sign d) = c == d
is_sign_of c t = false

abbrev pub is_a_word : Lexeme → Bool
is_a_word (Word w) = true
is_a_word t = false

-- true if a token is EQU or =
abbrev pub is_equ : Lexeme → Bool
is_equ t = is_the (codes "EQU") t || is_sign_of 61 t

-- The shape of a line, found from its tokens: a definition, with its name and the tokens after EQU
-- or =, or a statement, with its label if it has one.
pub data Shape : Type 0 where
  definition : (name : List ℕ) (value : List Lexeme) → Shape
  statement : (label : Option (List ℕ)) (tokens : List Lexeme) → Shape

-- the shape of a line that begins with a word and a colon, given the tokens after them
abbrev pub after_label : List ℕ → List Lexeme → Shape
after_label w [] = statement (Some w) []
after_label w (t ∷ rest) = if is_equ t then definition w rest else statement (Some w) (t ∷ rest)

-- the shape of a line that begins with a word, given the tokens after it
abbrev pub after_word : List ℕ → List Lexeme → Shape
after_word w [] = statement None (Word w ∷ [])
after_word w (t ∷ rest) =
    if is_equ t then definition w rest
    else (if is_sign_of 58 t then after_label w rest else statement None (Word w ∷ t ∷ rest))

abbrev pub shape_of : List Lexeme → Shape
shape_of [] = statement None []
shape_of (Word w ∷ rest) = after_word w rest
shape_of (t ∷ rest) = statement None (t ∷ rest)

-- ---- names that a line defines

-- true if a name can't be defined: it is reserved or has more than NAME_BYTES bytes
abbrev pub is_bad_name : List ℕ → Bool
is_bad_name w = is_reserved w || nat_lt NAME_BYTES (length w)

-- the tokens of a line's statement; a definition has none
abbrev pub statement_of : Shape → List Lexeme
statement_of (definition w value) = []
statement_of (statement label ts) = ts

-- the directive at the front of a statement, if there is one
abbrev pub front_directive : List Lexeme → Option Directive
front_directive [] = None
front_directive (Word w ∷ rest) = directive_of w
front_directive (t ∷ rest) = None

-- the word after the first token, if there is one
abbrev pub second_word : List Lexeme → List (List ℕ)
second_word [] = []
second_word (t ∷ []) = []
second_word (t ∷ Word w ∷ rest) = w ∷ []
second_word (t ∷ u ∷ rest) = []

abbrev pub by_define : Option Directive → List Lexeme → List (List ℕ)
by_define (Some Define) ts = second_word ts
by_define d ts = []

abbrev pub by_label : Option (List ℕ) → List (List ℕ)
by_label None = []
by_label (Some l) = l ∷ []

-- the names that a line defines
abbrev pub names_of : Shape → List (List ℕ)
names_of (definition w value) = w ∷ []
names_of (statement label ts) = by_label label ++ by_define (front_directive ts) ts

-- ---- the meaning of a statement

-- the meaning of a line's statement
pub data Body : Type 0 where
  empty : Body
  equ : Tree → Body
  org : Tree → Body
  ds : Tree → Body
  db : List Tree → Body
  dw : List Tree → Body
  da : List ℕ → Body
  code : Row → List Operand → Body
  define : Body
  ifdef : List ℕ → Body
  ifund : List ℕ → Body
  else_line : Body
  endif : Body
  end_line : Body
  align : (on : Bool) → Body
  options : Body
  used : Body
  xref : Body

-- the pieces between commas
abbrev pub pieces : List Lexeme → List (List Lexeme)
pieces [] = [] ∷ []
pieces (t ∷ ts) = if is_sign_of 44 t then [] ∷ pieces ts else with_first t (pieces ts)
  where
    with_first : Lexeme → List (List Lexeme) → List (List Lexeme)
    with_first t [] = (t ∷ []) ∷ []
    with_first t (p ∷ ps) = (t ∷ p) ∷ ps

-- all values, if none of them is missing
abbrev pub all_some : {A : Type 0} → List (Option A) → Option (List A)
all_some [] = Some []
all_some (None ∷ os) = None
all_some (Some x ∷ os) = option_and_then (λ xs. Some (x ∷ xs)) (all_some os)

-- the pieces of the tokens after a comma; none if there is no comma
abbrev pub pieces_in : Option (List Lexeme) → List (List Lexeme)
pieces_in None = []
pieces_in (Some ts) = pieces ts

-- the operand that a word names: a register, or else a part of the machine
abbrev pub named : Option ℕ → Option Special → Option Operand
named (Some x) s = Some (register x)
named None (Some s) = Some (special s)
named None None = None

-- true if the tokens are [I]
abbrev pub is_at_index : List Lexeme → Bool
is_at_index (a ∷ b ∷ c ∷ []) = is_sign_of 91 a && is_the (codes "I") b && is_sign_of 93 c
is_at_index ts = false

-- an operand that isn't an expression: a register, a word for a part of the machine, or [I]
abbrev pub part_of_machine : List Lexeme → Option Operand
part_of_machine (Word w ∷ []) = named (register_of w) (special_of w)
part_of_machine ts = if is_at_index ts then Some (special AtIndex) else None

abbrev pub or_expression : Option Operand → Option Tree → Option Operand
or_expression (Some o) e = Some o
or_expression None None = None
or_expression None (Some e) = Some (expression e)

abbrev pub operand_of_tokens : List Lexeme → Option Operand
operand_of_tokens ts = or_expression (part_of_machine ts) (expression_of ts)

-- the operands between commas; an empty list if there are no tokens
abbrev pub operands_of : List Lexeme → Option (List Operand)
operands_of [] = Some []
operands_of (t ∷ ts) = all_some (map operand_of_tokens (pieces (t ∷ ts)))

abbrev pub listed_values : List Lexeme → Option (List Tree)
listed_values ts = all_some (map expression_of (pieces ts))

abbrev pub one_text : List Lexeme → Option (List ℕ)
one_text (Text bytes ∷ []) = Some bytes
one_text ts = None

-- the name, if the tokens are one word that isn't reserved
abbrev pub one_name : List Lexeme → Option (List ℕ)
one_name (Word w ∷ []) = if is_reserved w then None else Some w
one_name ts = None

abbrev pub one_switch : List Lexeme → Option Bool
one_switch (t ∷ []) =
    if is_the (codes "ON") t then Some true
    else (if is_the (codes "OFF") t then Some false else None)
one_switch ts = None

abbrev pub nothing : List Lexeme → Body → Option Body
nothing [] body = Some body
nothing (t ∷ ts) body = None

-- true if the tokens are one word: BINARY, CHIP8, CHIP48, SCHIP10 or SCHIP11
abbrev pub is_known_option : List Lexeme → Bool
is_known_option (t ∷ []) =
    is_the (codes "BINARY") t || is_the (codes "CHIP8") t || is_the (codes "CHIP48") t
    || is_the (codes "SCHIP10") t || is_the (codes "SCHIP11") t
is_known_option ts = false

abbrev pub directive_body : Directive → List Lexeme → Option Body
directive_body Equ ts = None
directive_body Org ts = option_map org (expression_of ts)
directive_body Ds ts = option_map ds (expression_of ts)
directive_body Db ts = option_map db (listed_values ts)
directive_body Dw ts = option_map dw (listed_values ts)
directive_body Da ts = option_map da (one_text ts)
directive_body Align ts = option_map align (one_switch ts)
directive_body Ifdef ts = option_map ifdef (one_name ts)
directive_body Ifund ts = option_map ifund (one_name ts)
directive_body Define ts = option_map (λ n. define) (one_name ts)
directive_body Else ts = nothing ts else_line
directive_body Endif ts = nothing ts endif
directive_body End ts = nothing ts end_line
directive_body Options ts = Some options
directive_body Used ts = Some used
directive_body Xref ts = Some xref
directive_body Include ts = None
directive_body Undef ts = None

-- true if a directive can have a label before it
abbrev pub takes_label : Directive → Bool
takes_label Define = false
takes_label Ifdef = false
takes_label Ifund = false
takes_label Else = false
takes_label Endif = false
takes_label End = false
takes_label Options = false
takes_label Used = false
takes_label Xref = false
takes_label d = true

-- an instruction in the source form that has its name and that its operands fit
abbrev pub instruction_body : List ℕ → List Lexeme → Option Body
instruction_body w ts =
    option_and_then (λ operands. option_map (λ form. code form operands) (form_of w operands))
    (operands_of ts)

abbrev pub word_body : (labelled : Bool) → List ℕ → Option Directive → List Lexeme → Option Body
word_body labelled w (Some d) ts =
    if labelled && not (takes_label d) then None else directive_body d ts
word_body labelled w None ts = instruction_body w ts

abbrev pub statement_body : (labelled : Bool) → List Lexeme → Option Body
statement_body labelled [] = Some empty
statement_body labelled (Word w ∷ ts) = word_body labelled w (directive_of w) ts
statement_body labelled (t ∷ ts) = None

-- the meaning of a line, if everything after its first word fits
abbrev pub body_of_shape : Shape → Option Body
body_of_shape (definition w ts) = option_map equ (expression_of ts)
body_of_shape (statement label ts) = statement_body (is_some label) ts

-- ---- faults

-- the fault of the leftmost bad token
abbrev pub bad_token : List Lexeme → Option Fault
bad_token [] = None
bad_token (Bad f ∷ ts) = Some f
bad_token (t ∷ ts) = bad_token ts

-- true if a statement begins with a token that isn't a word
abbrev pub begins_with_no_word : List Lexeme → Bool
begins_with_no_word [] = false
begins_with_no_word (t ∷ ts) = not (is_a_word t)

-- true if a statement begins with a word that is neither a directive nor an instruction
abbrev pub begins_with_unknown_word : List Lexeme → Bool
begins_with_unknown_word (Word w ∷ ts) = is_none (directive_of w) && not (is_mnemonic w)
begins_with_unknown_word ts = false

-- true for INCLUDE, for UNDEF, and for OPTION without exactly one of its words
abbrev pub is_outside : Option Directive → List Lexeme → Bool
is_outside (Some Include) ts = true
is_outside (Some Undef) ts = true
is_outside (Some Options) ts = not (is_known_option (drop 1 ts))
is_outside d ts = false

-- true for USED and XREF: the tokens after them are ignored
abbrev pub is_skipped : Option Directive → Bool
is_skipped (Some Used) = true
is_skipped (Some Xref) = true
is_skipped d = false

-- true if more than OPEN_PARENTHESES parentheses are open at some token; the count can be negative
abbrev pub too_deep : (opened closed : ℕ) → List Lexeme → Bool
too_deep opened closed [] = false
too_deep opened closed (t ∷ ts) =
    let opened_now = if is_sign_of 40 t then opened + 1 else opened in
    let closed_now = if is_sign_of 41 t then closed + 1 else closed in
    nat_lt (closed_now + OPEN_PARENTHESES) opened_now || too_deep opened_now closed_now ts

-- ---- the reading

-- a fault, if its condition holds
abbrev pub fault_if : Bool → Fault → Option Fault
fault_if holds fault = if holds then Some fault else None

-- The faults of a reading in order, each if its condition holds. WrongOperands comes again after
-- them, for operands that don't fit.
abbrev pub faults_in_order : List Lexeme → Shape → List (Option Fault)
faults_in_order ts shape =
    bad_token ts
    ∷ fault_if (list_any is_bad_name (names_of shape)) BadName
    ∷ fault_if (begins_with_no_word (statement_of shape)) WrongOperands
    ∷ fault_if (begins_with_unknown_word (statement_of shape)) UnknownWord
    ∷ fault_if (is_outside (front_directive (statement_of shape)) (statement_of shape)) NotInProfile
    ∷ fault_if (too_deep 0 0 ts && not (is_skipped (front_directive (statement_of shape)))) TooDeep
    ∷ []

-- the first fault in the list
abbrev pub first_that_holds : List (Option Fault) → Option Fault
first_that_holds [] = None
first_that_holds (None ∷ faults) = first_that_holds faults
first_that_holds (Some fault ∷ faults) = Some fault

-- the reading of a line: the name that it defines, if any, and its statement; or its first fault
pub data Reading : Type 0 where
  bad : Fault → Reading
  read : (name : Option (List ℕ)) (body : Body) → Reading

abbrev pub first_name : List (List ℕ) → Option (List ℕ)
first_name [] = None
first_name (n ∷ ns) = Some n

-- the first fault, or else the meaning of the line; if it has no meaning, WrongOperands
abbrev pub fault_or_body : Option Fault → (name : Option (List ℕ)) → Option Body → Reading
fault_or_body (Some fault) name body = bad fault
fault_or_body None name (Some body) = read name body
fault_or_body None name None = bad WrongOperands

abbrev pub reading_of_shape : List Lexeme → Shape → Reading
reading_of_shape ts shape =
    fault_or_body (first_that_holds (faults_in_order ts shape)) (first_name (names_of shape))
    (body_of_shape shape)

abbrev pub reading_of_tokens : List Lexeme → Reading
reading_of_tokens ts = reading_of_shape ts (shape_of ts)

-- the reading of a line; each line has exactly one
unfoldable pub reading_of : List ℕ → Reading
reading_of line = reading_of_tokens (lexemes_of line)
