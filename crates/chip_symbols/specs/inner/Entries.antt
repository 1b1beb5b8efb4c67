-- The contents of a table of symbols: entries, which refer to names by numbers, and the values of
-- each number, now and before the edit (chosen by this project). No public clause cites these
-- definitions.
use Rattle.std.specs.Prelude.{◌≡◌, ℕ, ◌-◌, ◌<◌, ◌≤◌, ℤ, List, [], ◌∷◌, All, IfSome, length, map, Bool, false, Option, Some, None, not, slice_get, slice_index_or, take, ◌&&◌, if◌then◌else◌, nat_lt, sum_by, vec_capacity, vec_len}
use Rattle.std.specs.Global.{Vec}
use Rattle.std.specs.Option.{option_eq}
use Rattle.std.specs.Ordering.{int_eq}
use Rattle.chip_symbols.specs.Names.{Name, lookup_name}
use Rattle.chip_symbols.specs.Tables.{key_at, value_among}
use Rattle.chip_symbols.specs.declared.table.Symbol.{Symbol}
use Rattle.chip_symbols.specs.declared.table.Entry.{Entry}

-- the symbols of entries, which refer to names by numbers
abbrev pub symbols_in : List Name → List Entry → List (Name × Symbol)
symbols_in keys entries = map (λ e. (key_at keys e.id.number, e.symbol)) entries

-- no name has two numbers
pub record AreApart (keys : List Name) : Type 0 where
  pub each : (i j : ℕ) → i < length keys → j < length keys → key_at keys i ≡ key_at keys j → i ≡ j

-- the value at the number of each name is the value that the entries assign to the name, and each
-- entry is the first one of its name
pub record AreDefined (keys : List Name) (entries : List Entry) (values : List (Option ℤ)) : Type 0 where
  pub inside : All (λ e. e.id.number < length keys) entries
  pub once : (place : ℕ) (e : Name × Symbol) → place < length entries
      → e ≡ slice_index_or (symbols_in keys entries) place e
      → lookup_name (take place (symbols_in keys entries)) e.0 ≡ None
  pub long : length values ≡ length keys
  pub valued : (number : ℕ) → number < length keys
      → slice_index_or values number None ≡ value_among (symbols_in keys entries) (key_at keys number)

-- the names that have a value at their number, each with that value
abbrev pub valued_in : List Name → List (Option ℤ) → List (Name × ℤ)
valued_in [] values = []
valued_in (key ∷ keys) [] = []
valued_in (key ∷ keys) (None ∷ values) = valued_in keys values
valued_in (key ∷ keys) (Some value ∷ values) = (key, value) ∷ valued_in keys values

-- a list of entries is the front of another list
abbrev pub IsFront : List Entry → List Entry → Type 0
IsFront front whole = front ≡ take (length front) whole

-- the last entry, if there is one, belongs to a line up to a number
abbrev pub EndsBy : ℕ → List Entry → Type 0
EndsBy number entries =
    IfSome (slice_get entries (length entries - 1)) (λ e. e.symbol.line ≤ number)

-- the first entry of the whole list after that front, if there is one, belongs to a line past a number
abbrev pub IsPastNext : ℕ → List Entry → List Entry → Type 0
IsPastNext number front whole =
    IfSome (slice_get whole (length front)) (λ e. number < e.symbol.line)

-- the values at each number, now and before the edit
pub record ValueLists : Type 0 where
  pub current : List (Option ℤ)
  pub past : List (Option ℤ)
  -- there is room for one more name
  pub has_room : Bool

-- true if both lists have the same value, or no value, at a number
abbrev pub is_same_at : (past now : List (Option ℤ)) → ℕ → Bool
is_same_at past now number =
    option_eq int_eq (slice_index_or past number None) (slice_index_or now number None)

-- for each number, the list states whether its two values differ
pub record AreNoted (now past : List (Option ℤ)) (differs : List Bool) : Type 0 where
  pub long : length differs ≡ length now
  pub each : (number : ℕ) → number < length now
      → slice_index_or differs number false ≡ not (is_same_at past now number)

abbrev pub count_true : List Bool → ℕ
count_true differs = sum_by (λ is. if is then 1 else 0) differs

pub record AreCompared (now past : List (Option ℤ)) (differs : List Bool) (different : ℕ) : Type 0 where
  pub long : length past ≡ length now
  pub noted : AreNoted now past differs
  pub counted : different ≡ count_true differs

abbrev pub has_room : (now past : Vec (Option ℤ)) → Vec Bool → Bool
has_room now past differs =
    nat_lt (vec_len now) (vec_capacity now) && nat_lt (vec_len past) (vec_capacity past)
    && nat_lt (vec_len differs) (vec_capacity differs)
