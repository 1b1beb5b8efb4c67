-- The lines of a source, one after another.
use Rattle.std.proofs.Common.{◌≡◌, ◌∙◌, ℕ, ◌+◌, List, [], ◌∷◌, ◌++◌, length, take, slice_get, Some, ap, reverse}
use Rattle.std.proofs.lemmas.List.{length-map, take_more, reverse-append}
use Rattle.std.proofs.lemmas.Option.{get_or_from_slice_get, slice_get_within}
use Rattle.chip_warnings.specs.Seen.{seen_lines}
use Rattle.chip_asm.specs.LineViews.{line_facts}

pub take-next : {X : Type 0} (xs : List X) (i : ℕ) (x : X) → slice_get xs i ≡ Some x → take (i + 1) xs ≡ take i xs ++ x ∷ []
take-next xs i x at =
    take_more xs i x (slice_get_within xs i x at) ∙ ap (λ y. take i xs ++ y ∷ []) (get_or_from_slice_get xs i x x at)

-- the lines above the next line
pub above-next : {X : Type 0} (xs : List X) (i : ℕ) (x : X) → slice_get xs i ≡ Some x → reverse (take (i + 1) xs) ≡ x ∷ reverse (take i xs)
above-next xs i x at = ap reverse (take-next xs i x at) ∙ reverse-append (take i xs) (x ∷ [])

-- the number of lines
pub seen-length : (texts : List (List ℕ)) → length (seen_lines texts) ≡ length (line_facts texts)
unfolding seen_lines
seen-length texts = simp length-map
