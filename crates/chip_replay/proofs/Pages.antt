-- A list of lists in which one list is edited.
use Rattle.std.proofs.Common.{◌≡◌, ℕ, suc, ◌+◌, ◌-◌, ◌<◌, ◌≤◌, List, [], ◌∷◌, ◌++◌, length, take, drop, set, get_or, refl, sym, ap, ◌∙◌, arith, inl, inr, length-append, length-set, get_or-set_same, get_or-set_other}
use Rattle.std.specs.List.{flat_map, insert, remove}
use Rattle.std.proofs.lemmas.Bool.{cases_lt}
use Rattle.std.proofs.lemmas.List.{places, same_lists, get_or_default, nil_from_length, drop_all, take-append-drop, take-set, drop-set-lt, take_all, take_more, append_assoc, append-nil, set-append_left, set-append_right}
use Rattle.std.proofs.lemmas.List.Edits.{length-remove, get_or-insert_below, length-insert, insert-append_left, insert-append_right, remove-append_left, remove-append_right}
use Rattle.std.proofs.lemmas.List.Concat.{flat_map-append, get_or-flat_map}
use Rattle.std.proofs.lemmas.List.Folds.{length-flat_map-take}
use Rattle.std.proofs.Math.Seq.{drop-cons, take-suc-set}

pub split_at : {A : Type 0} (xs : List A) (i : ℕ) (d : A) → i < length xs → xs ≡ take i xs ++ get_or xs i d ∷ drop (suc i) xs
split_at xs i d l = sym (take-append-drop i xs) ∙ ap (λ ys. take i xs ++ ys) (drop-cons xs i d l)

pub split_set : {A : Type 0} (xs : List A) (i : ℕ) (x : A) → i < length xs → set xs i x ≡ take i xs ++ x ∷ drop (suc i) xs
split_set xs i x l =
    split_at (set xs i x) i x (omega (arith, length-set xs i x))
    ∙ ap (λ ys. ys ++ get_or (set xs i x) i x ∷ drop (suc i) (set xs i x)) (take-set xs i x)
    ∙ ap (λ y. take i xs ++ y ∷ drop (suc i) (set xs i x)) (get_or-set_same xs i x x l)
    ∙ ap (λ ys. take i xs ++ x ∷ ys) (drop-set-lt (suc i) xs i x (omega arith))

-- the element read at an index exists, whichever default is used past the end
pub read_at : {A : Type 0} (xs : List A) (i : ℕ) (x : A) → i < length xs → x ≡ get_or xs i x → (d : A) → get_or xs i d ≡ x
read_at xs i x l read d = get_or_default xs i d x l ∙ sym read

-- an element is replaced, and another is inserted after it
pub first_part : {A : Type 0} (xs : List A) (i : ℕ) (y z d : A) → i < length xs → get_or (insert (set xs i y) (i + 1) z) i d ≡ y
first_part xs i y z d l = get_or-insert_below (set xs i y) (i + 1) z d i (omega arith) (omega (arith, length-set xs i y)) ∙ get_or-set_same xs i y d l

pub length-parted : {A : Type 0} (xs : List A) (i : ℕ) (y z : A) → i < length xs → length (insert (set xs i y) (i + 1) z) ≡ length xs + 1
length-parted xs i y z l = length-insert (set xs i y) (i + 1) z (omega (arith, length-set xs i y)) ∙ ap (λ n. n + 1) (length-set xs i y)

pub take-parted : {A : Type 0} (xs : List A) (i : ℕ) (y z : A) → i < length xs → take i (insert (set xs i y) (i + 1) z) ≡ take i xs
take-parted xs i y z l =
    same_lists _ _ (grind (arith, places, length-parted xs i y z l))
    (λ k d h.
    let low : k < i = grind (arith, places) in
    let inserted = get_or-insert_below (set xs i y) (i + 1) z d k (omega (arith, low)) (omega (arith, length-set xs i y, l)) in
    let other = get_or-set_other xs i k y d (λ q. omega (arith, q, low)) in
    grind (arith, places, inserted, other))

module _ {X A : Type 0} (f : X → List A) (xs : List X) where
  pub count_all : (i : ℕ) → length xs ≤ i → length (flat_map f (take i xs)) ≡ length (flat_map f xs)
  count_all i l = ap (λ ys. length (flat_map f ys)) (take_all i xs l)

  -- an index below the total length is an index in one of the lists
  pub list_inside : (i j : ℕ) → length (flat_map f (take i xs)) + j < length (flat_map f xs) → i < length xs
  list_inside i j l = elim (cases_lt i (length xs)) [
    | inl a ↦ a
    | inr a ↦ absurd (omega (arith, count_all i a, l))
  ]

  -- the i-th list is that of x
  module _ (i : ℕ) (x : X) (within : i < length xs) (read : x ≡ get_or xs i x) where
    abbrev before : List A
    before = flat_map f (take i xs)

    abbrev behind : List A
    behind = flat_map f (drop (suc i) xs)

    parts : flat_map f xs ≡ before ++ (f x ++ behind)
    parts =
        ap (flat_map f) (split_at xs i x within) ∙ flat_map-append f (take i xs) (get_or xs i x ∷ drop (suc i) xs)
        ∙ ap (λ y. before ++ (f y ++ behind)) (sym read)

    parts_set : (y : X) → flat_map f (set xs i y) ≡ before ++ (f y ++ behind)
    parts_set y = ap (flat_map f) (split_set xs i y within) ∙ flat_map-append f (take i xs) (y ∷ drop (suc i) xs)

    -- another list with the same elements
    pub flat_same : (y : X) → f y ≡ f x → flat_map f (set xs i y) ≡ flat_map f xs
    flat_same y same = parts_set y ∙ ap (λ ys. before ++ (ys ++ behind)) same ∙ sym parts

    pub count_more : length (flat_map f (take (i + 1) xs)) ≡ length (flat_map f (take i xs)) + length (f x)
    count_more =
        ap (λ ys. length (flat_map f ys)) (take_more xs i x within) ∙ ap length (flat_map-append f (take i xs) (get_or xs i x ∷ []))
        ∙ length-append before (f (get_or xs i x) ++ [])
        ∙ ap (λ ys. length before + length ys) (append-nil (f (get_or xs i x)) ∙ ap f (sym read))

    pub count_within : length (flat_map f (take i xs)) + length (f x) ≤ length (flat_map f xs)
    count_within = omega (arith, length-flat_map-take f xs i x within, ap (λ y. length (f y)) read)

    -- an element of one list, as one of all elements
    pub element : (j : ℕ) (d : A) → j < length (f x) → get_or (flat_map f xs) (length (flat_map f (take i xs)) + j) d ≡ get_or (f x) j d
    element j d l =
        get_or-flat_map f xs i j x d within (omega (arith, l, ap (λ y. length (f y)) read)) ∙ ap (λ y. get_or (f y) j d) (sym read)

    pub element_at : (j : ℕ) (a d : A) → j < length (f x) → a ≡ get_or (f x) j a → get_or (flat_map f xs) (length (flat_map f (take i xs)) + j) d ≡ a
    element_at j a d l is = element j d l ∙ read_at (f x) j a l is d

    module _ (j : ℕ) where
      at_index : length before + j - length before ≡ j
      at_index = omega arith

      pub flat_set : (y : X) (a : A) → j < length (f x) → f y ≡ set (f x) j a → flat_map f (set xs i y) ≡ set (flat_map f xs) (length (flat_map f (take i xs)) + j) a
      flat_set y a l is =
          parts_set y ∙ ap (λ ys. before ++ (ys ++ behind)) is
          ∙ ap (λ ys. before ++ ys) (sym (set-append_left (f x) behind j a l))
          ∙ ap (λ k. before ++ set (f x ++ behind) k a) (sym at_index)
          ∙ sym (set-append_right before (f x ++ behind) (length before) (length before + j) a refl (omega arith))
          ∙ ap (λ ys. set ys (length before + j) a) (sym parts)

      pub flat_insert : (y : X) (a : A) → j ≤ length (f x) → f y ≡ insert (f x) j a → flat_map f (set xs i y) ≡ insert (flat_map f xs) (length (flat_map f (take i xs)) + j) a
      flat_insert y a l is =
          parts_set y ∙ ap (λ ys. before ++ (ys ++ behind)) is
          ∙ ap (λ ys. before ++ ys) (sym (insert-append_left (f x) behind j a l))
          ∙ ap (λ k. before ++ insert (f x ++ behind) k a) (sym at_index)
          ∙ sym (insert-append_right before (f x ++ behind) (length before) (length before + j) a refl (omega arith))
          ∙ ap (λ ys. insert ys (length before + j) a) (sym parts)

      part_removed : j < length (f x) → before ++ (remove (f x) j ++ behind) ≡ remove (flat_map f xs) (length before + j)
      part_removed l =
          ap (λ ys. before ++ ys) (sym (remove-append_left (f x) behind j l))
          ∙ ap (λ k. before ++ remove (f x ++ behind) k) (sym at_index)
          ∙ sym (remove-append_right before (f x ++ behind) (length before) (length before + j) refl (omega arith))
          ∙ ap (λ ys. remove ys (length before + j)) (sym parts)

      pub flat_remove : (y : X) → j < length (f x) → f y ≡ remove (f x) j → flat_map f (set xs i y) ≡ remove (flat_map f xs) (length (flat_map f (take i xs)) + j)
      flat_remove y l is = parts_set y ∙ ap (λ ys. before ++ (ys ++ behind)) is ∙ part_removed l

      -- a list whose only element is removed is removed too
      pub flat_removed : j < length (f x) → length (f x) ≡ 1 → flat_map f (remove xs i) ≡ remove (flat_map f xs) (length (flat_map f (take i xs)) + j)
      flat_removed l one =
          let none : remove (f x) j ≡ [] = nil_from_length (remove (f x) j) (omega (arith, length-remove (f x) j l)) in
          flat_map-append f (take i xs) (drop (suc i) xs) ∙ ap (λ ys. before ++ (ys ++ behind)) (sym none) ∙ part_removed l

    -- the list is split in two
    pub flat_parted : (y z : X) → f y ++ f z ≡ f x → flat_map f (insert (set xs i y) (i + 1) z) ≡ flat_map f xs
    flat_parted y z both =
        let next : i + 1 ≡ suc i = omega arith in
        ap (λ k. flat_map f (insert (set xs i y) k z)) next
        ∙ flat_map-append f (take (suc i) (set xs i y)) (z ∷ drop (suc i) (set xs i y))
        ∙ ap (λ ys. flat_map f ys ++ (f z ++ flat_map f (drop (suc i) (set xs i y)))) (take-suc-set xs i y within)
        ∙ ap (λ ys. flat_map f (take i xs ++ y ∷ []) ++ (f z ++ flat_map f ys)) (drop-set-lt (suc i) xs i y (omega arith))
        ∙ ap (λ ys. ys ++ (f z ++ behind)) (flat_map-append f (take i xs) (y ∷ []) ∙ ap (λ ys. before ++ ys) (append-nil (f y)))
        ∙ append_assoc before (f y) (f z ++ behind)
        ∙ ap (λ ys. before ++ ys) (sym (append_assoc (f y) (f z) behind) ∙ ap (λ ys. ys ++ behind) both)
        ∙ sym parts

    -- an element is appended to the last list
    pub flat_push : (y : X) (a : A) → i + 1 ≡ length xs → f y ≡ f x ++ a ∷ [] → flat_map f (set xs i y) ≡ flat_map f xs ++ a ∷ []
    flat_push y a last is =
        let none : drop (suc i) xs ≡ [] = drop_all (suc i) xs (omega arith) in
        parts_set y ∙ ap (λ ys. before ++ (f y ++ flat_map f ys)) none
        ∙ ap (λ ys. before ++ ys) (append-nil (f y) ∙ is) ∙ sym (append_assoc before (f x) (a ∷ []))
        ∙ ap (λ ys. ys ++ a ∷ []) (sym (parts ∙ ap (λ ys. before ++ (f x ++ flat_map f ys)) none ∙ ap (λ ys. before ++ ys) (append-nil (f x))))
