-- Names, and tables of names (chosen by this project). A name is a list of bytes in upper case.
use Rattle.std.specs.Prelude.{ℕ, ℤ, Bool, false, List, map, Option, Some, None, is_some}
use Rattle.std.specs.Str.{bytes_eq}
use Rattle.std.specs.Map.{lookup}
use Rattle.std.specs.FinMap as finite
use Rattle.chip_lang.specs.Value.{Symbols}
use Rattle.chip_symbols.specs.declared.table.Symbol.{Symbol}

abbrev pub Name : Type 0
Name = List ℕ

-- the value and the line of a name, if the table contains the name
abbrev pub lookup_name : List (Name × Symbol) → Name → Option Symbol
lookup_name names name = lookup (bytes_eq name) names

-- the names, each with its value but without its line
abbrev pub valued : List (Name × Symbol) → List (Name × ℤ)
valued names = map (λ e. (e.0, e.1.value)) names

-- the values of the names, as a map
unfoldable pub values_of : List (Name × Symbol) → Symbols
values_of names = finite.from_entries (valued names)

-- true if there is a name and it already has a symbol
abbrev pub is_redefinition : List (Name × Symbol) → Option Name → Bool
is_redefinition names None = false
is_redefinition names (Some name) = is_some (lookup_name names name)
