-- The property that tokens state, found piece by piece (chosen by this project). A law states that
-- the result is the property of Language, and that there is no other.
use Rattle.std.specs.Prelude.{ℕ, ◌+◌, ◌==◌, ◌||◌, Bool, true, false, not, if◌then◌else◌, nat_lt, pos, negsuc, ℤ, List, [], ◌∷◌, ◌++◌, length, Option, Some, None, Result, Ok, Err, is_some, option_map, option_and_then, codes, drop}
use Rattle.chip_lang.specs.declared.fault.Fault.{Fault}
use Rattle.chip_lang.specs.declared.limits.TheConstants.{MEMORY_BYTES}
use Rattle.chip_lang.specs.declared.lexeme.Lexeme.{Lexeme}
use Rattle.chip_lang.specs.declared.lexeme.Lexeme.TheVariants.{Word, Number, Text, Sign, Bad}
use Rattle.chip_lang.specs.Line.{is_the, is_sign_of}
use Rattle.chip_lang.specs.Value.{Symbols, value}
use Rattle.chip_lang.specs.computed.Parse.{expression_of}
use Rattle.chip_explore.specs.declared.property.Item.{Item}
use Rattle.chip_explore.specs.declared.property.Item.TheVariants.{Byte, Pixel}
use Rattle.chip_explore.specs.declared.property.Relation.{Relation}
use Rattle.chip_explore.specs.declared.property.Relation.TheVariants.{Equal, Unequal, Less, LessOrEqual, Greater, GreaterOrEqual}
use Rattle.chip_properties.specs.declared.limits.TheConstants.{MOST_COMPARISONS, MOST_TERMS, SCREEN_WIDTH, SCREEN_HEIGHT}
use Rattle.chip_properties.specs.Language.{Addend, a_number, times}
use Rattle.chip_properties.specs.Nesting.{is_deep}
use Rattle.chip_properties.specs.declared.separator.Separator.{Separator}
use Rattle.chip_properties.specs.declared.separator.Separator.TheVariants.{Place, And, Or, Relation as relation, Plus, Times, Comma}
use Rattle.chip_properties.specs.declared.stated.Kind.{Kind}
use Rattle.chip_properties.specs.declared.stated.Kind.TheVariants.{Always}
use Rattle.chip_properties.specs.SeenProperty.{SeenSum, SeenComparison, SeenCondition, SeenProperty}
use Rattle.chip_properties.specs.Words.{kind_of_word, is_property_word, item_of_word}
use Rattle.chip_properties.specs.computed.Separated.{before_first, from_first, after_first, enclosed, count_before, pieces}

-- a number, if it isn't below 0
abbrev pub natural : ℤ → Option ℕ
natural (pos n) = Some n
natural (negsuc n) = None

abbrev pub natural_of : Result ℤ Fault → Option ℕ
natural_of (Ok z) = natural z
natural_of (Err fault) = None

-- the value of an expression
abbrev pub number_in : Symbols → List Lexeme → Option ℕ
number_in symbols ts = option_and_then (λ e. natural_of (value e symbols)) (expression_of ts)

abbrev pub if_below : ℕ → ℕ → Option ℕ
if_below limit n = if nat_lt n limit then Some n else None

abbrev pub number_below_in : ℕ → Symbols → List Lexeme → Option ℕ
number_below_in limit symbols ts = option_and_then (if_below limit) (number_in symbols ts)

abbrev pub enclosed_number : Symbols → Option (List Lexeme) → Option ℕ
enclosed_number symbols inside = option_and_then (number_in symbols) inside

-- the value of a number, a name, or an expression in parentheses
abbrev pub value_in : Symbols → List Lexeme → Option ℕ
value_in symbols (Word w ∷ []) = if is_property_word w then None else number_in symbols (Word w ∷ [])
value_in symbols (Number z ∷ []) = number_in symbols (Number z ∷ [])
value_in symbols (Text bytes ∷ []) = number_in symbols (Text bytes ∷ [])
value_in symbols (Sign c ∷ []) = number_in symbols (Sign c ∷ [])
value_in symbols (Bad f ∷ []) = number_in symbols (Bad f ∷ [])
value_in symbols ts = enclosed_number symbols (enclosed 40 41 ts)

-- the pixel at a column and a row
abbrev pub point_in : Symbols → List Lexeme → Option (List Lexeme) → Option Item
point_in symbols column None = None
point_in symbols column (Some row) =
    option_and_then (λ x. option_map (λ y. Pixel x y) (number_below_in SCREEN_HEIGHT symbols row))
    (number_below_in SCREEN_WIDTH symbols column)

abbrev pub pixel_in : Symbols → List Lexeme → Option Item
pixel_in symbols ts =
    option_and_then (λ inside. point_in symbols (before_first Comma inside) (after_first Comma inside))
    (enclosed 40 41 ts)

abbrev pub byte_in : Symbols → List Lexeme → Option Item
byte_in symbols ts =
    option_and_then (λ inside. option_map Byte (number_below_in MEMORY_BYTES symbols inside))
    (enclosed 91 93 ts)

-- an item that a property can use
abbrev pub item_in : Symbols → List Lexeme → Option Item
item_in symbols [] = byte_in symbols []
item_in symbols (Word w ∷ []) = item_of_word w
item_in symbols (t ∷ []) = byte_in symbols (t ∷ [])
item_in symbols (t ∷ u ∷ ts) =
    if is_the (codes "PIXEL") t then pixel_in symbols (u ∷ ts) else byte_in symbols (t ∷ u ∷ ts)

-- whether tokens begin like an item that a property can use
abbrev pub is_item : List Lexeme → Bool
is_item [] = false
is_item (Word w ∷ []) = is_some (item_of_word w)
is_item (t ∷ []) = false
is_item (t ∷ u ∷ ts) = is_the (codes "PIXEL") t || is_sign_of 91 t

-- an addend of a sum
abbrev pub alone_in : Symbols → List Lexeme → Option Addend
alone_in symbols ts =
    if is_item ts
    then option_map (times 1) (item_in symbols ts)
    else option_map a_number (value_in symbols ts)

abbrev pub times_in : Symbols → List Lexeme → Option (List Lexeme) → Option Addend
times_in symbols front None = alone_in symbols front
times_in symbols front (Some back) =
    option_and_then (λ n. option_map (times n) (item_in symbols back))
    (value_in symbols front)

abbrev pub addend_in : Symbols → List Lexeme → Option Addend
addend_in symbols ts = times_in symbols (before_first Times ts) (after_first Times ts)

-- a sum with one more addend, if the sum's numbers together have at most 32 bits
abbrev pub with_addend : SeenSum → Addend → Option SeenSum
with_addend s (a_number n) =
    if nat_lt (s.constant + n) 4294967296 then Some (record s { constant = s.constant + n }) else None
with_addend s (times n i) = Some (record s { terms = s.terms ++ record { factor = n; item = i } ∷ [] })

-- a sum with the addend that a piece forms
abbrev pub added_in : Symbols → SeenSum → List Lexeme → Option SeenSum
added_in symbols s ts = option_and_then (with_addend s) (addend_in symbols ts)

-- a sum of `count` addends, with the addends that some pieces form
abbrev pub summed : Symbols → ℕ → SeenSum → List (List Lexeme) → Option SeenSum
summed symbols count s [] = Some s
summed symbols count s (p ∷ ps) =
    if count == MOST_TERMS then None
    else option_and_then (λ more. summed symbols (count + 1) more ps) (added_in symbols s p)

abbrev pub no_sum : SeenSum
no_sum = record { constant = 0; terms = [] }

abbrev pub sum_in : Symbols → List Lexeme → Option SeenSum
sum_in symbols ts = summed symbols 0 no_sum (pieces Plus 0 ts)

-- the relation that tokens begin with, and the tokens after it
abbrev pub less_in : List Lexeme → Option (Relation × List Lexeme)
less_in [] = Some (Less, [])
less_in (t ∷ ts) =
    if is_sign_of 62 t then Some (Unequal, ts)
    else (if is_sign_of 61 t then Some (LessOrEqual, ts) else Some (Less, t ∷ ts))

abbrev pub greater_in : List Lexeme → Option (Relation × List Lexeme)
greater_in [] = Some (Greater, [])
greater_in (t ∷ ts) = if is_sign_of 61 t then Some (GreaterOrEqual, ts) else Some (Greater, t ∷ ts)

abbrev pub relation_in : List Lexeme → Option (Relation × List Lexeme)
relation_in [] = None
relation_in (t ∷ ts) =
    if is_sign_of 61 t then Some (Equal, ts)
    else (if is_sign_of 60 t then less_in ts
    else (if is_sign_of 62 t then greater_in ts else None))

abbrev pub compared : Symbols → List Lexeme → Relation × List Lexeme → Option SeenComparison
compared symbols front found =
    option_and_then (λ a. option_map (λ b. record { left = a; relation = found.0; right = b })
    (sum_in symbols found.1)) (sum_in symbols front)

abbrev pub comparison_in : Symbols → List Lexeme → Option SeenComparison
comparison_in symbols ts =
    option_and_then (compared symbols (before_first relation ts)) (relation_in (from_first relation ts))

-- the comparisons found before, and those that some pieces form
abbrev pub found_with : Symbols → List SeenComparison → List (List Lexeme) → Option (List SeenComparison)
found_with symbols found [] = Some found
found_with symbols found (p ∷ ps) =
    if length found == MOST_COMPARISONS then None
    else option_and_then (λ c. found_with symbols (found ++ c ∷ []) ps) (comparison_in symbols p)

abbrev pub comparisons_in : Symbols → Separator → List Lexeme → Option (List SeenComparison)
comparisons_in symbols separator ts = found_with symbols [] (pieces separator 0 ts)

-- whether there is no `or` between the comparisons
abbrev pub has_no_or : List Lexeme → Bool
has_no_or ts = count_before Or 0 ts == length ts

abbrev pub joint : Bool → Separator
joint true = And
joint false = Or

abbrev pub condition_in : Symbols → List Lexeme → Option SeenCondition
condition_in symbols ts =
    option_map (λ cs. record { is_all = has_no_or ts; comparisons = cs })
    (comparisons_in symbols (joint (has_no_or ts)) ts)

-- the place of a property: `here`, `at` and an address, or none
abbrev pub here_in : Option ℕ → Option (Option ℕ)
here_in here = option_and_then (λ a. option_map Some (if_below MEMORY_BYTES a)) here

abbrev pub at_in : Symbols → List Lexeme → Option (Option ℕ)
at_in symbols ts =
    option_and_then (λ a. option_map Some (if_below MEMORY_BYTES a)) (value_in symbols ts)

abbrev pub place_in : Symbols → Option ℕ → List Lexeme → Option (Option ℕ)
place_in symbols here [] = Some None
place_in symbols here (t ∷ []) = if is_the (codes "HERE") t then here_in here else None
place_in symbols here (t ∷ u ∷ ts) =
    if is_the (codes "AT") t then at_in symbols (u ∷ ts) else None

-- the condition that always holds
abbrev pub no_condition : SeenCondition
no_condition = record { is_all = true; comparisons = [] }

abbrev pub is_always : Kind → Bool
is_always Always = true
is_always k = false

-- the condition before a place, or a condition that always holds if it is omitted
abbrev pub given_in : Symbols → Kind → (front back : List Lexeme) → Option SeenCondition
given_in symbols kind [] [] = None
given_in symbols kind [] (t ∷ ts) = if is_always kind then None else Some no_condition
given_in symbols kind (t ∷ ts) back = condition_in symbols (t ∷ ts)

-- the property that tokens state, without the word for their kind
abbrev pub property_in : Symbols → Option ℕ → Kind → List Lexeme → Option SeenProperty
property_in symbols here kind ts =
    if is_deep 0 ts then None
    else option_and_then (λ c. option_and_then (λ place.
    Some (record { condition = c; place = place; wanted = not (is_always kind) }))
    (place_in symbols here (from_first Place ts)))
    (given_in symbols kind (before_first Place ts) (from_first Place ts))

-- the kind whose word tokens begin with
abbrev pub kind_in_front : List Lexeme → Option Kind
kind_in_front [] = None
kind_in_front (Word w ∷ ts) = kind_of_word w
kind_in_front (t ∷ ts) = None

abbrev pub of_kind : Symbols → Option ℕ → Kind → List Lexeme → Option (Kind × SeenProperty)
of_kind symbols here kind ts = option_map (λ p. (kind, p)) (property_in symbols here kind ts)

abbrev pub begun_by : Symbols → Option ℕ → Option Kind → List Lexeme → Option (Kind × SeenProperty)
begun_by symbols here None ts = of_kind symbols here Always ts
begun_by symbols here (Some kind) ts = of_kind symbols here kind (drop 1 ts)

-- the kind and the property that tokens state, for a given kind or else the kind whose word they begin with
abbrev pub stated_in : Symbols → Option ℕ → Option Kind → List Lexeme → Option (Kind × SeenProperty)
stated_in symbols here None ts = begun_by symbols here (kind_in_front ts) ts
stated_in symbols here (Some kind) ts = of_kind symbols here kind ts
