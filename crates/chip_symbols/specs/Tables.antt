-- The table of symbols as contracts see it: the names that lines use or define, each with a
-- permanent number, and the symbols now and before the edit (chosen by this project).
use Rattle.std.specs.FinMap as finite
use Rattle.std.specs.Prelude.{◌≡◌, ℕ, ◌<◌, ◌≤◌, ℤ, List, [], All, length, map, Bool, false, Option, not, refl, option_map, option_to_list, slice_index_or}
use Rattle.std.specs.Coded.{Coded, code_by, coded×, coded_list, coded_ℕ, coded_ℤ}
use Rattle.chip_lang.specs.Uses.{has_same_value}
use Rattle.chip_lang.specs.Value.{Symbols}
use Rattle.chip_symbols.specs.Names.{Name, lookup_name, values_of}
use Rattle.chip_symbols.specs.declared.table.Symbol.{Symbol}
use Rattle.chip_symbols.specs.declared.table.NameId.{NameId}

pub record Tables : Type 0 where
  pub keys : List Name
  pub symbols : List (Name × Symbol)
  -- the values of the symbols before the edit
  pub before : Symbols
  -- the number of symbols that there is room for
  pub room : ℕ

-- a table is encoded as the pairs of its fields, and so is a symbol
abbrev symbol_code : Coded Symbol
symbol_code =
    code_by (ℤ × ℕ) (coded× coded_ℤ coded_ℕ) (λ s. (s.value, s.line)) (λ p. record { value = p.0; line = p.1 })
    (λ _. refl)

abbrev pub tables_code : Coded Tables
tables_code =
    code_by (List Name × (List (Name × Symbol) × (Symbols × ℕ)))
    (coded× (coded_list (coded_list coded_ℕ)) (coded× (coded_list (coded× (coded_list coded_ℕ) symbol_code))
    (coded× (finite.code (coded_list coded_ℕ) coded_ℤ) coded_ℕ)))
    (λ t. (t.keys, (t.symbols, (t.before, t.room))))
    (λ p. record { keys = p.0; symbols = p.1.0; before = p.1.1.0; room = p.1.1.1 }) (λ _. refl)

-- the name with a number; an empty name if no name has the number
abbrev pub key_at : List Name → ℕ → Name
key_at keys number = slice_index_or keys number []

-- the names with these numbers
abbrev pub names_at : List Name → List NameId → List Name
names_at keys numbers = map (λ id. key_at keys id.number) numbers

-- the number belongs to the name
pub record IsNumber (keys : List Name) (id : NameId) (name : Name) : Type 0 where
  pub within : id.number < length keys
  pub named : key_at keys id.number ≡ name

-- the numbers belong to the names, in this order
pub record AreNumbers (keys : List Name) (numbers : List NameId) (names : List Name) : Type 0 where
  pub within : All (λ id. id.number < length keys) numbers
  pub named : names_at keys numbers ≡ names

-- the new names are the old ones, in their order, perhaps followed by more names
pub record Extends (old new : List Name) : Type 0 where
  pub longer : length old ≤ length new
  pub same : (number : ℕ) → number < length old → key_at new number ≡ key_at old number

-- the name with a number, if a number is given
abbrev pub name_of : List Name → Option NameId → Option Name
name_of keys defines = option_map (λ id. key_at keys id.number) defines

-- the symbol that a line adds for the name with a number, if a number is given
abbrev pub symbols_of : List Name → Option NameId → Symbol → List (Name × Symbol)
symbols_of keys defines symbol =
    option_to_list (option_map (λ name. (name, symbol)) (name_of keys defines))

-- the value of a name among symbols
abbrev pub value_among : List (Name × Symbol) → Name → Option ℤ
value_among symbols name = option_map (λ s. s.value) (lookup_name symbols name)

-- for each name, the list states whether the name has a different value than before the edit, or
-- has gained or lost its value
pub record AreDifferences (t : Tables) (differs : List Bool) : Type 0 where
  pub long : length differs ≡ length t.keys
  pub each : (number : ℕ) → number < length t.keys
      → slice_index_or differs number false
      ≡ not (has_same_value t.before (values_of t.symbols) (key_at t.keys number))

-- a change preserves the names and the values before the edit, and doesn't reduce the room
pub record KeepsBefore (old new : Tables) : Type 0 where
  pub keys : new.keys ≡ old.keys
  pub before : new.before ≡ old.before
  pub room : old.room ≤ new.room

-- all symbols belong to lines up to a number
abbrev pub AreUpTo : ℕ → List (Name × Symbol) → Type 0
AreUpTo number symbols = All (λ e. e.1.line ≤ number) symbols

-- all symbols belong to lines past a number
abbrev pub AreOver : ℕ → List (Name × Symbol) → Type 0
AreOver number symbols = All (λ e. number < e.1.line) symbols
