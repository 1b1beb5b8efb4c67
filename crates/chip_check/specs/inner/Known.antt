-- The names that lines of help look up in a source (chosen by this project).
use Rattle.std.specs.Prelude.{◌≡◌, ℕ, List, map}
use Rattle.std.specs.Global.{Vec}
use Rattle.chip_symbols.specs.declared.table.Symbol.{Symbol}
use Rattle.chip_symbols.specs.Names.{Name, lookup_name}

-- the entries of a map, as pairs of a name and a symbol
abbrev pub listed : List (Vec ℕ × Symbol) → List (Name × Symbol)
listed entries = map (λ e. (e.0.items, e.1)) entries

-- whether each name has the same symbol in both lists, or is in neither list
abbrev pub Agree : (these those : List (Name × Symbol)) → Type 0
Agree these those = (name : Name) → lookup_name these name ≡ lookup_name those name
