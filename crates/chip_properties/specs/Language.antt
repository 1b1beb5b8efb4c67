-- The language of properties: which tokens are a property, and what the property states (chosen by this
-- project).
--
--     property   = [always | never | ever | can] [condition] [here | at value]; at least one of the last two
--                  parts is required, and an `always` property requires the condition
--     condition  = comparison {and comparison} | comparison {or comparison}
--     comparison = sum relation sum
--     relation   = "=" | "<" ">" | "<" | "<" "=" | ">" | ">" "="
--     sum        = addend {"+" addend}
--     addend     = value | item | value "*" item
--     item       = V0 .. VF | I | PC | DT | DEPTH | HIGH | KEYS | "[" expression "]"
--                | PIXEL "(" expression "," expression ")"
--     value      = number | name | "(" expression ")"
--
-- The tokens are those of Tokens, which reads `!=` as `<>`.
-- A word of the language always has its own meaning, so a name with the spelling of such a word must be
-- put in parentheses.
use Rattle.std.specs.Prelude.{◌≡◌, ◌≤◌, ◌<◌, ℕ, ◌+◌, ◌^◌, Bool, true, false, if◌then◌else◌, pos, List, [], ◌∷◌, ◌++◌, length, Option, Some, None, Ok, codes, fold}
use Rattle.chip_lang.specs.declared.limits.TheConstants.{MEMORY_BYTES}
use Rattle.chip_lang.specs.declared.lexeme.Lexeme.{Lexeme}
use Rattle.chip_lang.specs.declared.lexeme.Lexeme.TheVariants.{Word, Sign}
use Rattle.chip_lang.specs.Grammar.{IsExpression}
use Rattle.chip_lang.specs.Tree.{Tree}
use Rattle.chip_lang.specs.Value.{Symbols, value}
use Rattle.chip_explore.specs.declared.property.Item.{Item}
use Rattle.chip_explore.specs.declared.property.Item.TheVariants.{Byte, Pixel}
use Rattle.chip_explore.specs.declared.property.Relation.{Relation}
use Rattle.chip_explore.specs.declared.property.Relation.TheVariants.{Equal, Unequal, Less, LessOrEqual, Greater, GreaterOrEqual}
use Rattle.chip_properties.specs.declared.limits.TheConstants.{MOST_COMPARISONS, MOST_TERMS, SCREEN_WIDTH, SCREEN_HEIGHT}
use Rattle.chip_properties.specs.declared.stated.Kind.{Kind}
use Rattle.chip_properties.specs.declared.stated.Kind.TheVariants.{Always}
use Rattle.chip_properties.specs.Nesting.{is_deep}
use Rattle.chip_properties.specs.SeenProperty.{SeenSum, SeenComparison, SeenCondition, SeenProperty}
use Rattle.chip_properties.specs.Words.{is_property_word, item_of_word, kind_of_word}

-- the tokens are an expression with this value, which isn't below 0
pub record IsNumber (symbols : Symbols) (ts : List Lexeme) (n : ℕ) : Type 0 where
  pub tree : Tree
  pub expression : IsExpression ts tree
  pub valued : value tree symbols ≡ Ok (pos n)

-- a token is not a word of the language
abbrev pub IsFree : Lexeme → Type 0
IsFree (Word w) = is_property_word w ≡ false
IsFree t = Unit

-- a number, a name, or an expression in parentheses
pub data IsValue : Symbols → List Lexeme → ℕ → Type 0 where
  one_token : {symbols : Symbols} {t : Lexeme} {n : ℕ} → IsFree t → IsNumber symbols (t ∷ []) n
      → IsValue symbols (t ∷ []) n
  in_parentheses : {symbols : Symbols} {inside ts : List Lexeme} {n : ℕ}
      → ts ≡ Sign 40 ∷ (inside ++ Sign 41 ∷ []) → IsNumber symbols inside n → IsValue symbols ts n

-- an item that a property can use
pub data IsItem : Symbols → List Lexeme → Item → Type 0 where
  named : {symbols : Symbols} {w : List ℕ} {i : Item} → item_of_word w ≡ Some i
      → IsItem symbols (Word w ∷ []) i
  a_byte : {symbols : Symbols} {inside ts : List Lexeme} {n : ℕ}
      → ts ≡ Sign 91 ∷ (inside ++ Sign 93 ∷ []) → IsNumber symbols inside n → n < MEMORY_BYTES
      → IsItem symbols ts (Byte n)
  a_pixel : {symbols : Symbols} {column row ts : List Lexeme} {x y : ℕ}
      → ts ≡ Word (codes "PIXEL") ∷ Sign 40 ∷ ((column ++ Sign 44 ∷ row) ++ Sign 41 ∷ [])
      → IsNumber symbols column x → x < SCREEN_WIDTH → IsNumber symbols row y → y < SCREEN_HEIGHT
      → IsItem symbols ts (Pixel x y)

-- a part of a sum: a number, or an item with a factor
pub data Addend : Type 0 where
  a_number : ℕ → Addend
  times : ℕ → Item → Addend

pub data IsAddend : Symbols → List Lexeme → Addend → Type 0 where
  a_value : {symbols : Symbols} {ts : List Lexeme} {n : ℕ} → IsValue symbols ts n
      → IsAddend symbols ts (a_number n)
  an_item : {symbols : Symbols} {ts : List Lexeme} {i : Item} → IsItem symbols ts i
      → IsAddend symbols ts (times 1 i)
  a_product : {symbols : Symbols} {front back ts : List Lexeme} {n : ℕ} {i : Item}
      → ts ≡ front ++ Sign 42 ∷ back → IsValue symbols front n → IsItem symbols back i
      → IsAddend symbols ts (times n i)

-- tokens that consist of at least one part, with a separator between neighboring parts
abbrev pub joined : Lexeme → List Lexeme → List (List Lexeme) → List Lexeme
joined separator first [] = first
joined separator first (next ∷ more) = first ++ separator ∷ joined separator next more

-- a relation holds between each part and the element at the same place
abbrev pub AreEach : {A : Type 0} → (List Lexeme → A → Type 0) → List (List Lexeme) → List A → Type 0
AreEach Is [] [] = Unit
AreEach Is [] (x ∷ xs) = ⊥
AreEach Is (p ∷ ps) [] = ⊥
AreEach Is (p ∷ ps) (x ∷ xs) = Is p x × AreEach Is ps xs

-- a sum with one more addend
abbrev pub with : SeenSum → Addend → SeenSum
with s (a_number n) = record s { constant = s.constant + n }
with s (times n i) = record s { terms = s.terms ++ record { factor = n; item = i } ∷ [] }

-- the sum of some addends
abbrev pub total : List Addend → SeenSum
total addends = fold with (record { constant = 0; terms = [] }) addends

-- addends with a plus sign between them, at most MOST_TERMS, whose numbers together have at most 32 bits
pub record IsSum (symbols : Symbols) (ts : List Lexeme) (s : SeenSum) : Type 0 where
  pub first : List Lexeme
  pub more : List (List Lexeme)
  pub addends : List Addend
  pub tokens : ts ≡ joined (Sign 43) first more
  pub each : AreEach (IsAddend symbols) (first ∷ more) addends
  pub few : length addends ≤ MOST_TERMS
  pub sum : s ≡ total addends
  pub fits : s.constant < 2 ^ 32

-- the signs of a relation: = <> < <= > >=
abbrev pub signs_of : Relation → List Lexeme
signs_of Equal = Sign 61 ∷ []
signs_of Unequal = Sign 60 ∷ Sign 62 ∷ []
signs_of Less = Sign 60 ∷ []
signs_of LessOrEqual = Sign 60 ∷ Sign 61 ∷ []
signs_of Greater = Sign 62 ∷ []
signs_of GreaterOrEqual = Sign 62 ∷ Sign 61 ∷ []

-- two sums with a relation between them
pub record IsComparison (symbols : Symbols) (ts : List Lexeme) (c : SeenComparison) : Type 0 where
  pub front : List Lexeme
  pub back : List Lexeme
  pub tokens : ts ≡ front ++ (signs_of c.relation ++ back)
  pub left : IsSum symbols front c.left
  pub right : IsSum symbols back c.right

-- the word between comparisons: `and` if all must hold, `or` if at least one must hold
abbrev pub word_between : Bool → Lexeme
word_between is_all = Word (if is_all then codes "AND" else codes "OR")

-- at most MOST_COMPARISONS comparisons with one word between them; `is_all` is true for a single one
pub record IsCondition (symbols : Symbols) (ts : List Lexeme) (c : SeenCondition) : Type 0 where
  pub first : List Lexeme
  pub more : List (List Lexeme)
  pub tokens : ts ≡ joined (word_between c.is_all) first more
  pub each : AreEach (IsComparison symbols) (first ∷ more) c.comparisons
  pub few : length c.comparisons ≤ MOST_COMPARISONS
  pub alone : more ≡ [] → c.is_all ≡ true

-- the place of a property: none, the address of its line, or an address
pub data IsPlace : Symbols → (here : Option ℕ) → List Lexeme → Option ℕ → Type 0 where
  nowhere : {symbols : Symbols} {here : Option ℕ} → IsPlace symbols here [] None
  at_here : {symbols : Symbols} {here : Option ℕ} {a : ℕ} → here ≡ Some a → a < MEMORY_BYTES
      → IsPlace symbols here (Word (codes "HERE") ∷ []) (Some a)
  at_address : {symbols : Symbols} {here : Option ℕ} {ts : List Lexeme} {a : ℕ}
      → IsValue symbols ts a → a < MEMORY_BYTES
      → IsPlace symbols here (Word (codes "AT") ∷ ts) (Some a)

-- the condition before a place. The condition may be omitted if there is a place and the kind is
-- not `always`; it then always holds.
pub data IsGiven : Symbols → Kind → (front back : List Lexeme) → SeenCondition → Type 0 where
  a_condition : {symbols : Symbols} {kind : Kind} {front back : List Lexeme} {c : SeenCondition}
      → IsCondition symbols front c → IsGiven symbols kind front back c
  no_condition : {symbols : Symbols} {kind : Kind} {t : Lexeme} {ts : List Lexeme}
      → (kind ≡ Always → ⊥)
      → IsGiven symbols kind [] (t ∷ ts) (record { is_all = true; comparisons = [] })

-- whether a search looks for states in which the condition holds, or for states in which it fails
abbrev pub is_wanted : Kind → Bool
is_wanted Always = false
is_wanted kind = true

-- the property that tokens state for a kind, without the word for the kind; at most
-- OPEN_PARENTHESES parentheses and brackets are open at once
pub record IsProperty (symbols : Symbols) (here : Option ℕ) (kind : Kind) (ts : List Lexeme)
    (p : SeenProperty) : Type 0 where
  pub front : List Lexeme
  pub back : List Lexeme
  pub tokens : ts ≡ front ++ back
  pub given : IsGiven symbols kind front back p.condition
  pub place : IsPlace symbols here back p.place
  pub wanted : p.wanted ≡ is_wanted kind
  pub shallow : is_deep 0 ts ≡ false

-- the kind and the property that tokens state; the kind is the one whose word they begin with, or else `always`
pub data IsStated : Symbols → (here : Option ℕ) → List Lexeme → Kind → SeenProperty → Type 0 where
  with_kind : {symbols : Symbols} {here : Option ℕ} {w : List ℕ} {ts : List Lexeme} {kind : Kind}
      {p : SeenProperty} → kind_of_word w ≡ Some kind → IsProperty symbols here kind ts p
      → IsStated symbols here (Word w ∷ ts) kind p
  without : {symbols : Symbols} {here : Option ℕ} {ts : List Lexeme} {p : SeenProperty}
      → IsProperty symbols here Always ts p → IsStated symbols here ts Always p

-- the tokens state nothing
abbrev pub StateNothing : Symbols → (here : Option ℕ) → List Lexeme → Type 0
StateNothing symbols here ts = (kind : Kind) (p : SeenProperty) → IsStated symbols here ts kind p → ⊥
