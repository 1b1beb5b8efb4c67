-- Items keep their meaning when a name is added, and stay numbered.
use Rattle.std.proofs.Common.{◌≡◌, ◌≤◌, ℕ, ℤ, All, Some, List, [], ◌∷◌, ◌++◌, length, arith, refl, sym, ap, ◌∙◌, append-nil}
use Rattle.std.specs.List.{fold}
use Rattle.std.proofs.Math.Seq.{get_or-append_seam}
use Rattle.std.proofs.lemmas.List.{get_or_append_left, length_push}
use Rattle.std.proofs.lemmas.List.Sums.{fold_push}
use Rattle.std.proofs.lemmas.List.Elements.{All-head, All-tail, All-push, All-pop, All-weaker}
use Rattle.std.proofs.lemmas.List.Concat.{flat_map-cons}
use Rattle.std.proofs.lemmas.Grind.{flat_map-append}
use Rattle.chip_lang.specs.declared.postfix.Item.{Item}
use Rattle.chip_lang.specs.declared.postfix.Item.TheVariants.{Number, Name, Unary, Binary, WithName}
use Rattle.chip_lang.specs.declared.expr.Operator.{Operator}
use Rattle.chip_lang.specs.declared.expr.Prefix.{Prefix}
use Rattle.chip_lang.specs.Expression.{Tree, name, binary}
use Rattle.chip_lang.specs.inner.Postfix.{top, popped, pushed, stack_of, name_of_item, names_of, IsAmongFirst, AreNumbered}

-- ---- one more name

pushed-more : (names : List (List ℕ)) (n : List ℕ) (stack : List Tree) (i : Item) → IsAmongFirst (length names) i →
    pushed (names ++ n ∷ []) stack i ≡ pushed names stack i
pushed-more names n stack (Name k) h = ap (λ x. name x ∷ stack) (get_or_append_left names (n ∷ []) [] k h)
pushed-more names n stack (WithName sign k) h = ap (λ x. binary sign (top stack) (name x) ∷ popped stack) (get_or_append_left names (n ∷ []) [] k h)
pushed-more names n stack i h = refl

fold-more : (names : List (List ℕ)) (n : List ℕ) (stack : List Tree) (items : List Item) → All (IsAmongFirst (length names)) items →
    fold (pushed (names ++ n ∷ [])) stack items ≡ fold (pushed names) stack items
fold-more names n stack [] h = refl
fold-more names n stack (i ∷ items) h =
    fold-more names n (pushed (names ++ n ∷ []) stack i) items (All-tail (IsAmongFirst (length names)) i items h)
    ∙ ap (λ s. fold (pushed names) s items) (pushed-more names n stack i (All-head (IsAmongFirst (length names)) i items h))

name_of_item-more : (names : List (List ℕ)) (n : List ℕ) (i : Item) → IsAmongFirst (length names) i →
    name_of_item (names ++ n ∷ []) i ≡ name_of_item names i
name_of_item-more names n (Name k) h = ap (λ x. x ∷ []) (get_or_append_left names (n ∷ []) [] k h)
name_of_item-more names n (WithName sign k) h = ap (λ x. x ∷ []) (get_or_append_left names (n ∷ []) [] k h)
name_of_item-more names n i h = refl

names_of-more : (names : List (List ℕ)) (n : List ℕ) (items : List Item) → All (IsAmongFirst (length names)) items →
    names_of (names ++ n ∷ []) items ≡ names_of names items
names_of-more names n [] h = refl
names_of-more names n (i ∷ items) h =
    flat_map-cons (name_of_item (names ++ n ∷ [])) i items
    ∙ ap (λ front. front ++ names_of (names ++ n ∷ []) items) (name_of_item-more names n i (All-head (IsAmongFirst (length names)) i items h))
    ∙ ap (λ back. name_of_item names i ++ back) (names_of-more names n items (All-tail (IsAmongFirst (length names)) i items h))
    ∙ sym (flat_map-cons (name_of_item names) i items)

-- ---- one more item

among-more : (count more : ℕ) → count ≤ more → (i : Item) → IsAmongFirst count i → IsAmongFirst more i
among-more count more le (Name k) h = omega (arith, le, h)
among-more count more le (WithName sign k) h = omega (arith, le, h)
among-more count more le i h = tt

names_of-push : (names : List (List ℕ)) (items : List Item) (i : Item) → names_of names (items ++ i ∷ []) ≡ names_of names items ++ name_of_item names i
names_of-push names items i =
    flat_map-append (name_of_item names) items (i ∷ []) ∙ ap (λ back. names_of names items ++ back) (flat_map-cons (name_of_item names) i [] ∙ append-nil (name_of_item names i))

-- ---- items that stay numbered

-- one more item, which has no name
numbered_push : (names : List (List ℕ)) (items : List Item) (i : Item) → IsAmongFirst 0 i → name_of_item names i ≡ [] → AreNumbered names items →
    AreNumbered names (items ++ i ∷ [])
numbered_push names items i p none h = record {
  within = All-push (IsAmongFirst (length names)) items i h.within (among-more 0 (length names) (omega arith) i p);
  all = names_of-push names items i ∙ ap (λ back. names_of names items ++ back) none ∙ append-nil (names_of names items) ∙ h.all;
}

pub numbered_number : (names : List (List ℕ)) (items : List Item) (z : ℤ) → AreNumbered names items → AreNumbered names (items ++ Number z ∷ [])
numbered_number names items z h = numbered_push names items (Number z) tt refl h

pub numbered_unary : (names : List (List ℕ)) (items : List Item) (sign : Prefix) → AreNumbered names items → AreNumbered names (items ++ Unary sign ∷ [])
numbered_unary names items sign h = numbered_push names items (Unary sign) tt refl h

pub numbered_binary : (names : List (List ℕ)) (items : List Item) (sign : Operator) → AreNumbered names items → AreNumbered names (items ++ Binary sign ∷ [])
numbered_binary names items sign h = numbered_push names items (Binary sign) tt refl h

-- one more name, and the item that has it
pub numbered_name : (names : List (List ℕ)) (items : List Item) (n : List ℕ) → AreNumbered names items →
    AreNumbered (names ++ n ∷ []) (items ++ Name (length names) ∷ [])
numbered_name names items n h = record {
  within =
      let more = length (names ++ n ∷ []) in
      let kept = All-weaker (IsAmongFirst (length names)) (IsAmongFirst more) (among-more (length names) more (omega (arith, length_push names n))) items h.within in
      All-push (IsAmongFirst more) items (Name (length names)) kept (omega (arith, length_push names n));
  all =
      names_of-push (names ++ n ∷ []) items (Name (length names))
      ∙ ap (λ back. names_of (names ++ n ∷ []) items ++ back ∷ []) (get_or-append_seam names n [] [])
      ∙ ap (λ front. front ++ n ∷ []) (names_of-more names n items h.within ∙ h.all);
}

pub stack_of_name : (names : List (List ℕ)) (items : List Item) (n : List ℕ) → AreNumbered names items →
    stack_of (names ++ n ∷ []) (items ++ Name (length names) ∷ []) ≡ name n ∷ stack_of names items
stack_of_name names items n h =
    fold_push (pushed (names ++ n ∷ [])) [] items (Name (length names))
    ∙ ap (λ x. name x ∷ stack_of (names ++ n ∷ []) items) (get_or-append_seam names n [] [])
    ∙ ap (λ stack. name n ∷ stack) (fold-more names n [] items h.within)

-- a different item in place of the last one, with the same name if there is one
pub numbered_last : (names : List (List ℕ)) (items : List Item) (i j : Item) → (IsAmongFirst (length names) i → IsAmongFirst (length names) j) →
    name_of_item names j ≡ name_of_item names i → AreNumbered names (items ++ i ∷ []) → AreNumbered names (items ++ j ∷ [])
numbered_last names items i j p same h =
    let k = All-pop (IsAmongFirst (length names)) (items ++ i ∷ []) items (Some i) refl h.within in
    record {
      within = All-push (IsAmongFirst (length names)) items j k.0 (p k.1);
      all = names_of-push names items j ∙ ap (λ back. names_of names items ++ back) same ∙ sym (names_of-push names items i) ∙ h.all;
    }

pub ruleset numbered_items = (numbered_number, numbered_unary, numbered_binary, numbered_name, numbered_last, stack_of_name)
