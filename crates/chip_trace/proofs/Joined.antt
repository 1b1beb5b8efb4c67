-- Pieces separated by a byte.
use Rattle.std.proofs.Common.{◌≡◌, ℕ, List, [], ◌∷◌, ◌++◌, map, ap, sym, ◌∙◌, append-nil, append_assoc}
use Rattle.std.specs.List.{flat_map, join_with_byte}

-- the first piece, and then each other piece after the byte
pub joined_is : {A : Type 0} (between : ℕ) (f : A → List ℕ) (x : A) (xs : List A) →
    join_with_byte between (map f (x ∷ xs)) ≡ f x ++ flat_map (λ y. between ∷ f y) xs
joined_is between f x [] = sym (append-nil (f x))
joined_is between f x (y ∷ ys) = ap (λ rest. f x ++ (between ∷ rest)) (joined_is between f y ys)

-- separated pieces after other bytes
pub joined_more : {A : Type 0} (between : ℕ) (f : A → List ℕ) (front : List ℕ) (x : A) (xs : List A) →
    (front ++ f x) ++ flat_map (λ y. between ∷ f y) xs ≡ front ++ join_with_byte between (map f (x ∷ xs))
joined_more between f front x xs =
    append_assoc front (f x) (flat_map (λ y. between ∷ f y) xs) ∙ ap (λ l. front ++ l) (sym (joined_is between f x xs))

-- separated pieces, with one byte before the first piece and one after the last piece
pub enclosed_more : {A : Type 0} (before between after : ℕ) (f : A → List ℕ) (front : List ℕ) (x : A) (xs : List A) →
    ((front ++ before ∷ f x) ++ flat_map (λ y. between ∷ f y) xs) ++ after ∷ []
    ≡ front ++ (before ∷ join_with_byte between (map f (x ∷ xs)) ++ after ∷ [])
enclosed_more before between after f front x xs =
    let others : List ℕ = flat_map (λ y. between ∷ f y) xs in
    ap (λ l. l ++ after ∷ []) (append_assoc front (before ∷ f x) others)
    ∙ append_assoc front (before ∷ (f x ++ others)) (after ∷ [])
    ∙ ap (λ l. front ++ (before ∷ l ++ after ∷ [])) (sym (joined_is between f x xs))
