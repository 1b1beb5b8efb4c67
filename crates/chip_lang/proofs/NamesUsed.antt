-- The names of expressions and of their items.
use Rattle.std.proofs.Common.{◌≡◌, ℕ, zero, suc, List, [], ◌∷◌, ◌++◌, drop, refl, sym, ap, ◌∙◌, append_assoc, append-nil}
use Rattle.std.specs.List.{slice_get, fold}
use Rattle.std.proofs.lemmas.List.Concat.{flat_map-cons}
use Rattle.chip_lang.specs.declared.postfix.Item.{Item}
use Rattle.chip_lang.specs.declared.postfix.Item.TheVariants.{Number, Name, Unary, Binary, WithNumber, WithName}
use Rattle.chip_lang.specs.Expression.{Tree}
use Rattle.chip_lang.specs.Uses.{names_in}
use Rattle.chip_lang.specs.inner.Postfix.{top, popped, numbered, pushed, stack_of, name_of_item, names_of, IsWhole}

-- the names in the trees of a stack, the lowest first
names_on : List Tree → List (List ℕ)
names_on [] = []
names_on (t ∷ stack) = names_on stack ++ names_in t

names_on-pushed : (names : List (List ℕ)) (stack : List Tree) (i : Item) → names_on (pushed names stack i) ≡ names_on stack ++ name_of_item names i
unfolding names_on
names_on-pushed names stack (Number z) = refl
names_on-pushed names stack (Name k) = refl
names_on-pushed names [] (Unary sign) = refl
names_on-pushed names (a ∷ stack) (Unary sign) = sym (append-nil (names_on stack ++ names_in a))
names_on-pushed names [] (Binary sign) = refl
names_on-pushed names (b ∷ []) (Binary sign) = sym (append-nil (names_in b))
names_on-pushed names (b ∷ a ∷ stack) (Binary sign) =
    sym (append_assoc (names_on stack) (names_in a) (names_in b)) ∙ sym (append-nil ((names_on stack ++ names_in a) ++ names_in b))
names_on-pushed names [] (WithNumber sign z) = refl
names_on-pushed names (a ∷ stack) (WithNumber sign z) = sym (append_assoc (names_on stack) (names_in a) [])
names_on-pushed names [] (WithName sign k) = refl
names_on-pushed names (a ∷ stack) (WithName sign k) = sym (append_assoc (names_on stack) (names_in a) (numbered names k ∷ []))

names_on-fold : (names : List (List ℕ)) (items : List Item) (stack : List Tree) → names_on (fold (pushed names) stack items) ≡ names_on stack ++ names_of names items
names_on-fold names [] stack = sym (append-nil (names_on stack))
names_on-fold names (i ∷ items) stack =
    names_on-fold names items (pushed names stack i)
    ∙ ap (λ front. front ++ names_of names items) (names_on-pushed names stack i)
    ∙ append_assoc (names_on stack) (name_of_item names i) (names_of names items)
    ∙ ap (λ back. names_on stack ++ back) (sym (flat_map-cons (name_of_item names) i items))

names_on-one : (stack : List Tree) → popped stack ≡ [] → names_on stack ≡ names_in (top stack)
unfolding names_on
names_on-one [] h = refl
names_on-one (t ∷ stack) h = ap (λ stack. names_on stack ++ names_in t) h

-- items that leave one tree have its names
pub names_whole : (names : List (List ℕ)) (items : List Item) → IsWhole names items → names ≡ names_in (top (stack_of names items))
unfolding names_on
names_whole names items h = sym h.all ∙ sym (names_on-fold names items []) ∙ names_on-one (stack_of names items) h.one

-- the first of the names from a place on is the name at that place
pub slice_get-drop : {A : Type 0} (xs : List A) (k : ℕ) → slice_get (drop k xs) 0 ≡ slice_get xs k
slice_get-drop [] zero = refl
slice_get-drop [] (suc k) = refl
slice_get-drop (x ∷ xs) zero = refl
slice_get-drop (x ∷ xs) (suc k) = slice_get-drop xs k

pub ruleset names_left = (flat_map-cons, slice_get-drop)
