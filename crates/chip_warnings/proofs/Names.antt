-- The names that lines use.
use Rattle.std.proofs.Common.{◌≡◌, ◌∙◌, ◌+◌, ◌<◌, ℕ, get_or, length, take, slice_get, Some, Bool, true, false, ◌||◌, List, [], ◌∷◌, ◌++◌, refl, ap, sym}
use Rattle.std.specs.Global.{Vec}
use Rattle.std.specs.List.{flat_map, list_any}
use Rattle.std.specs.Str.{bytes_eq}
use Rattle.std.proofs.lemmas.Grind.{flat_map-append}
use Rattle.std.proofs.lemmas.List.{append-nil, take_more}
use Rattle.std.proofs.lemmas.List.Folds.{list_any-append}
use Rattle.indexmap.specs.IndexSet.{IndexSet}
use Rattle.chip_symbols.specs.declared.name_hasher.NameHasher.{NameHasher}
use Rattle.chip_warnings.specs.Seen.{names_of_line}
use Rattle.chip_warnings.specs.inner.Noted.{Knows}
use Rattle.chip_warnings.proofs.Lines.{take-next}

-- whether a set contains a name
abbrev pub has : (keys : List (Vec ℕ)) → (name : List ℕ) → Bool
has keys name = list_any (λ (key : Vec ℕ). bytes_eq name key.items) keys

or_assoc : (a b c : Bool) → ((a || b) || c) ≡ (a || (b || c))
or_assoc true b c = refl
or_assoc false b c = refl

-- adding some names and then more names adds all of them
pub knows-more : (xs ys : List (List ℕ)) (old mid new : IndexSet (Vec ℕ) NameHasher) → Knows xs old mid → Knows ys mid new → Knows (xs ++ ys) old new
knows-more xs ys old mid new these those q =
    those q
    ∙ ap (λ b. b || list_any (bytes_eq q) ys) (these q)
    ∙ or_assoc (has old.keys q) (list_any (bytes_eq q) xs) (list_any (bytes_eq q) ys)
    ∙ ap (λ b. has old.keys q || b) (sym (list_any-append (bytes_eq q) xs ys))

-- adding no names changes nothing
pub knows-none : (used : IndexSet (Vec ℕ) NameHasher) → Knows [] used used
knows-none used q = none (has used.keys q)
  where
    none : (b : Bool) → b ≡ (b || false)
    none true = refl
    none false = refl

-- adding the next of some names
pub knows-next : (words : List (List ℕ)) (i : ℕ) (word got : List ℕ) (old mid new : IndexSet (Vec ℕ) NameHasher) → i < length words → word ≡ get_or words i word → got ≡ word → Knows (take i words) old mid
    → Knows (got ∷ []) mid new → Knows (take (i + 1) words) old new
knows-next words i word got old mid new low at same before step name =
    knows-more (take i words) (got ∷ []) old mid new before step name
    ∙ ap (λ ns. has old.keys name || list_any (bytes_eq name) ns) (ap (λ w. take i words ++ w ∷ []) (same ∙ at) ∙ sym (take_more words i word low))

-- the names that the lines up to and including the next one use
pub names-next : (texts : List (List ℕ)) (i : ℕ) (text name : List ℕ) → slice_get texts i ≡ Some text
    → list_any (bytes_eq name) (flat_map names_of_line (take (i + 1) texts)) ≡ (list_any (bytes_eq name) (flat_map names_of_line (take i texts)) || list_any (bytes_eq name) (names_of_line text))
names-next texts i text name at =
    ap (λ ts. list_any (bytes_eq name) (flat_map names_of_line ts)) (take-next texts i text at)
    ∙ ap (list_any (bytes_eq name)) (flat_map-append names_of_line (take i texts) (text ∷ []))
    ∙ list_any-append (bytes_eq name) (flat_map names_of_line (take i texts)) (names_of_line text ++ [])
    ∙ ap (λ names. list_any (bytes_eq name) (flat_map names_of_line (take i texts)) || list_any (bytes_eq name) names) (append-nil (names_of_line text))
