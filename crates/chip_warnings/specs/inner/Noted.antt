-- The data that the program stores about a source while it checks the lines for warnings.
use Rattle.std.specs.Prelude.{◌≡◌, ℕ, ◌&&◌, ◌||◌, not, Bool, false, nat_lt, List, slice_index, slice_index_or}
use Rattle.std.specs.List.{list_any}
use Rattle.std.specs.Global.{Vec}
use Rattle.std.specs.Str.{bytes_eq}
use Rattle.indexmap.specs.IndexSet.{IndexSet}
use Rattle.chip_symbols.specs.declared.name_hasher.NameHasher.{NameHasher}
use Rattle.chip_warnings.specs.declared.marks.Marks.{Marks}
use Rattle.chip_warnings.specs.Marked.{Marked}

-- a set contains a name if and only if `answer` is true
abbrev pub Has : IndexSet (Vec ℕ) NameHasher → (name : List ℕ) → Bool → Type 0
Has set name answer = list_any (λ (key : Vec ℕ). bytes_eq name key.items) set.keys ≡ answer

-- the new set contains the names of the old set and the names `names`, and no others
abbrev pub Knows : (names : List (List ℕ)) (old new : IndexSet (Vec ℕ) NameHasher) → Type 0
Knows names old new =
    (name : List ℕ)
    → Has new name (list_any (λ (key : Vec ℕ). bytes_eq name key.items) old.keys || list_any (bytes_eq name) names)

-- the flag of an address; false for addresses past the last flag
abbrev pub flag : (flags : List Bool) (address : ℕ) → Bool
flag flags address = slice_index_or flags address false

-- the marks that the flags represent
abbrev pub marked_in : Marks → Marked
marked_in marks =
    record {
      jumped = λ address. flag marks.jumped.items address;
      data_at = λ address.
          nat_lt 0 (slice_index marks.«data».items address)
          && not (marks.writes && flag marks.pointed.items address);
      writes_code = marks.writes_code;
    }
