-- A loop that appends one piece for each element of a list.
use Rattle.std.proofs.Common.{◌≡◌, ◌∙◌, ◌≤◌, ◌<◌, ◌+◌, ◌++◌, ℕ, List, [], ◌∷◌, length, get_or, map, take, ap, sym, append_assoc, take_all}
use Rattle.std.specs.List.{flat_map}
use Rattle.std.proofs.lemmas.List.{flat_map_more, map-append, take_more}

module _ {X : Type 0} (piece : X → List ℕ) (old here : List ℕ) (all : List X) (i : ℕ) where
  -- appends the piece of the next element
  pub one_more : (new : List ℕ) (default : X) → i < length all → here ≡ old ++ flat_map piece (take i all) →
      new ≡ here ++ piece (get_or all i default) → new ≡ old ++ flat_map piece (take (i + 1) all)
  one_more new default inside before more =
      more ∙ ap (λ text. text ++ piece (get_or all i default)) before
      ∙ flat_map_more piece old (take i all) (get_or all i default)
      ∙ ap (λ some. old ++ flat_map piece some) (sym (take_more all i default inside))

  -- no element is left
  pub no_more : length all ≤ i → here ≡ old ++ flat_map piece (take i all) → here ≡ old ++ flat_map piece all
  no_more past before = before ∙ ap (λ some. old ++ flat_map piece some) (take_all i all past)

-- appends the next element to a list that is built element by element
pub one_mapped : {X Y : Type 0} (element : X → Y) (old here : List Y) (all : List X) (i : ℕ) (new : List Y) (default : X) →
    i < length all → here ≡ old ++ map element (take i all) → new ≡ here ++ element (get_or all i default) ∷ [] →
    new ≡ old ++ map element (take (i + 1) all)
one_mapped element old here all i new default inside before more =
    let next = element (get_or all i default) in
    more ∙ ap (λ text. text ++ next ∷ []) before ∙ append_assoc old (map element (take i all)) (next ∷ [])
    ∙ ap (λ text. old ++ text) (sym (ap (map element) (take_more all i default inside) ∙ map-append element (take i all) (get_or all i default ∷ [])))
