-- Texts that consist of several pieces.
use Rattle.std.proofs.Common.{◌≡◌, ℕ, ◌+◌, List, [], ◌∷◌, ◌++◌, sym, ap, ◌∙◌, zero-add, map, append_assoc}
use Rattle.std.specs.List.{flat_map, range_with_len}
use Rattle.std.proofs.lemmas.List.{map-id, flat_map_more}
use Rattle.std.proofs.lemmas.List.FromFn.{map-range_with_len_more}

-- the numbers below n + 1 are the numbers below n, and n
pub below_one_more : (n : ℕ) → range_with_len 0 (n + 1) ≡ range_with_len 0 n ++ n ∷ []
below_one_more n = simp map-id at (map-range_with_len_more (λ (k : ℕ). k) 0 n n (zero-add n))

-- one more piece at the end
pub parts_more : (f : ℕ → List ℕ) (front : List ℕ) (n : ℕ) →
    (front ++ flat_map f (range_with_len 0 n)) ++ f n ≡ front ++ flat_map f (range_with_len 0 (n + 1))
parts_more f front n =
    flat_map_more f front (range_with_len 0 n) n ∙ ap (λ xs. front ++ flat_map f xs) (sym (below_one_more n))

-- one more element at the end
pub elements_more : (f : ℕ → ℕ) (front : List ℕ) (n : ℕ) →
    (front ++ map f (range_with_len 0 n)) ++ f n ∷ [] ≡ front ++ map f (range_with_len 0 (n + 1))
elements_more f front n =
    append_assoc front (map f (range_with_len 0 n)) (f n ∷ [])
    ∙ ap (λ xs. front ++ xs) (sym (map-range_with_len_more f 0 n n (zero-add n)))
