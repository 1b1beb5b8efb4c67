-- The last value that items put is the value of the tree that they build.
use Rattle.std.proofs.Common.{◌≡◌, ℕ, ℤ, pos, List, [], ◌∷◌, ◌++◌, Result, Ok, Err, length, arith, refl, sym, ap, ◌∙◌, ◌⊎◌, inl, inr, SFits, w32, to_z, of_z}
use Rattle.std.proofs.lemmas.Int.{to_z-of_z}
use Rattle.std.specs.List.{fold}
use Rattle.chip_lang.specs.declared.fault.Fault.{Fault}
use Rattle.chip_lang.specs.declared.postfix.Item.{Item}
use Rattle.chip_lang.specs.declared.postfix.Item.TheVariants.{Number, Name, Unary, Binary, WithNumber, WithName}
use Rattle.chip_lang.specs.Expression.{Tree, name}
use Rattle.chip_lang.specs.Value.{◌>>=◌, Symbols, value, apply_prefix, apply}
use Rattle.chip_lang.specs.inner.Postfix.{top, popped, numbered, pushed, stack_of}
use Rattle.chip_lang.specs.inner.LastValue.{top_value, value_put, values_left, last_value}

abbrev Outcome : Type 0
Outcome = Result ℤ Fault

-- an outcome that depends on the values of a stack, or the first fault from the bottom
abbrev with_values : Symbols → List Tree → (List ℤ → Outcome) → Outcome
with_values symbols [] go = go []
with_values symbols (t ∷ stack) go = with_values symbols stack (λ vs. value t symbols >>= λ v. go (v ∷ vs))

one_taken : (a : Outcome) (sign go : ℤ → Outcome) → ((a >>= sign) >>= go) ≡ (a >>= λ x. sign x >>= go)
one_taken (Ok x) sign go = refl
one_taken (Err f) sign go = refl

two_taken : (a b : Outcome) (sign : ℤ → ℤ → Outcome) (go : ℤ → Outcome) → ((a >>= λ x. b >>= sign x) >>= go) ≡ (a >>= λ x. b >>= λ y. sign x y >>= go)
two_taken (Ok x) b sign go = one_taken b (sign x) go
two_taken (Err f) b sign go = refl

after_item : (names : List (List ℕ)) (symbols : Symbols) (stack : List Tree) (i : Item) (go : List ℤ → Outcome) →
    with_values symbols (pushed names stack i) go ≡ with_values symbols stack (λ vs. value_put names symbols i vs >>= λ v. go (v ∷ values_left i vs))
after_item names symbols stack (Number z) go = refl
after_item names symbols stack (Name k) go = refl
after_item names symbols (a ∷ stack) (Unary sign) go =
    ap (with_values symbols stack) (λ i vs. one_taken (value a symbols) (apply_prefix sign) (λ v. go (v ∷ vs)) i)
after_item names symbols (b ∷ []) (Binary sign) go = one_taken (value b symbols) (apply sign (pos 0)) (λ v. go (v ∷ []))
after_item names symbols (b ∷ a ∷ stack) (Binary sign) go =
    ap (with_values symbols stack) (λ i vs. two_taken (value a symbols) (value b symbols) (apply sign) (λ v. go (v ∷ vs)) i)
after_item names symbols (a ∷ stack) (WithNumber sign z) go =
    ap (with_values symbols stack) (λ i vs. one_taken (value a symbols) (λ x. apply sign x z) (λ v. go (v ∷ vs)) i)
after_item names symbols (a ∷ stack) (WithName sign k) go =
    ap (with_values symbols stack) (λ i vs. one_taken (value a symbols) (λ x. value (name (numbered names k)) symbols >>= apply sign x) (λ v. go (v ∷ vs)) i)
after_item names symbols stack i go = refl

alone : (v : Outcome) → (v >>= λ x. Ok x) ≡ v
alone (Ok x) = refl
alone (Err f) = refl

value_after : (names : List (List ℕ)) (symbols : Symbols) (stack : List Tree) (items : List Item) → popped (fold (pushed names) stack items) ≡ [] →
    with_values symbols stack (λ vs. last_value names symbols vs items) ≡ value (top (fold (pushed names) stack items)) symbols
value_after names symbols [] [] h = refl
value_after names symbols (t ∷ []) [] h = alone (value t symbols)
value_after names symbols (t ∷ u ∷ stack) [] h = cc
value_after names symbols stack (i ∷ items) h =
    sym (after_item names symbols stack i (λ vs. last_value names symbols vs items)) ∙ value_after names symbols (pushed names stack i) items h

pub last_value-whole : (names : List (List ℕ)) (symbols : Symbols) (items : List Item) → popped (stack_of names items) ≡ [] →
    last_value names symbols [] items ≡ value (top (stack_of names items)) symbols
last_value-whole names symbols items h = value_after names symbols [] items h

-- ---- one more zero under the last value changes nothing

put_over_zero : (names : List (List ℕ)) (symbols : Symbols) (i : Item) (stack : List ℤ) → value_put names symbols i (stack ++ pos 0 ∷ []) ≡ value_put names symbols i stack
put_over_zero names symbols (Unary sign) [] = refl
put_over_zero names symbols (Binary sign) [] = refl
put_over_zero names symbols (Binary sign) (b ∷ []) = refl
put_over_zero names symbols (WithNumber sign z) [] = refl
put_over_zero names symbols (WithName sign k) [] = refl
put_over_zero names symbols i stack = refl

left_over_zero : (i : Item) (stack : List ℤ) →
    (values_left i (stack ++ pos 0 ∷ []) ≡ values_left i stack) ⊎ (values_left i (stack ++ pos 0 ∷ []) ≡ values_left i stack ++ pos 0 ∷ [])
left_over_zero (Unary sign) [] = inl refl
left_over_zero (Binary sign) [] = inl refl
left_over_zero (Binary sign) (b ∷ []) = inl refl
left_over_zero (WithNumber sign z) [] = inl refl
left_over_zero (WithName sign k) [] = inl refl
left_over_zero i stack = inr refl

same_after : (v : Outcome) (f g : ℤ → Outcome) → ((x : ℤ) → f x ≡ g x) → (v >>= f) ≡ (v >>= g)
same_after (Ok x) f g same = same x
same_after (Err fault) f g same = refl

pub last_value-zero : (names : List (List ℕ)) (symbols : Symbols) (stack : List ℤ) (items : List Item) → last_value names symbols (stack ++ pos 0 ∷ []) items ≡ last_value names symbols stack items
last_value-zero names symbols [] [] = refl
last_value-zero names symbols (v ∷ stack) [] = refl
last_value-zero names symbols stack (i ∷ items) =
    ap (λ r. r >>= λ v. last_value names symbols (v ∷ values_left i (stack ++ pos 0 ∷ [])) items) (put_over_zero names symbols i stack)
    ∙ same_after (value_put names symbols i stack) (λ v. last_value names symbols (v ∷ values_left i (stack ++ pos 0 ∷ [])) items) (λ v. last_value names symbols (v ∷ values_left i stack) items) (λ v. elim (left_over_zero i stack) [
      | inl e ↦ ap (λ s. last_value names symbols (v ∷ s) items) e
      | inr e ↦ ap (λ s. last_value names symbols (v ∷ s) items) e ∙ last_value-zero names symbols (v ∷ values_left i stack) items
    ])

-- ---- the end of the items after an operand

pub no_more : (names : List (List ℕ)) (symbols : Symbols) (stack : List ℤ) (items : List Item) → length items ≡ 0 → last_value names symbols stack items ≡ Ok (top_value stack)
no_more names symbols stack [] h = refl
no_more names symbols stack (i ∷ items) h = absurd (omega (arith, h))

pub after_value : (names : List (List ℕ)) (symbols : Symbols) (i : Item) (v : ℤ) (stack : List ℤ) (rest items : List Item) → rest ≡ i ∷ items → value_put names symbols i stack ≡ Ok v →
    last_value names symbols stack rest ≡ last_value names symbols (v ∷ values_left i stack) items
after_value names symbols i v stack rest items is put =
    ap (last_value names symbols stack) is ∙ ap (λ r. r >>= λ x. last_value names symbols (x ∷ values_left i stack) items) put

after_fault : (names : List (List ℕ)) (symbols : Symbols) (i : Item) (f : Fault) (stack : List ℤ) (rest items : List Item) → rest ≡ i ∷ items → value_put names symbols i stack ≡ Err f →
    last_value names symbols stack rest ≡ Err f
after_fault names symbols i f stack rest items is put =
    ap (last_value names symbols stack) is ∙ ap (λ r. r >>= λ x. last_value names symbols (x ∷ values_left i stack) items) put

-- the fault of an item that follows the items at the front of an operand
pub operand_fault : (names : List (List ℕ)) (symbols : Symbols) (i : Item) (f : Fault) (first left right : ℤ) (all rest items : List Item) → SFits w32 first → SFits w32 left →
    ((under : List ℤ) → last_value names symbols (to_z w32 (of_z w32 first) ∷ to_z w32 (of_z w32 left) ∷ under) all ≡ last_value names symbols (right ∷ to_z w32 (of_z w32 left) ∷ under) rest) →
    rest ≡ i ∷ items → ((under : List ℤ) → value_put names symbols i (right ∷ left ∷ under) ≡ Err f) →
    (under : List ℤ) → last_value names symbols (first ∷ left ∷ under) all ≡ Err f
operand_fault names symbols i f first left right all rest items in_first in_left same is put under =
    rw (to_z-of_z w32 first in_first, to_z-of_z w32 left in_left) at same under ∙ after_fault names symbols i f _ rest items is (put under)
