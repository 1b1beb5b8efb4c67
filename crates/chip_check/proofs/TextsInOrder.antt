-- A loop that adds a part for each element of a list.
use Rattle.std.proofs.Common.{◌≡◌, ◌∙◌, ◌<◌, ◌≤◌, ◌+◌, ◌++◌, ℕ, suc, List, [], ◌∷◌, drop, get_or, length, refl, sym, ap, subst, append_assoc, add-one, drop-cons}
use Rattle.std.proofs.lemmas.List.{append-nil, drop_all}
use Rattle.chip_check.specs.Check.{AreTexts}

module _ {X : Type 0} (IsText : X → List ℕ → Type 0) (all : List X) (old : List ℕ) where
  -- the text so far, with the parts for the elements that are left, consists of the parts for all elements
  abbrev pub PartsSoFar : (place : ℕ) (text : List ℕ) → Type 0
  PartsSoFar place text =
      (left : List ℕ) → AreTexts IsText (drop place all) left → (others : List ℕ) × AreTexts IsText all others × (text ++ left ≡ old ++ others)

  pub no_part_yet : PartsSoFar 0 old
  no_part_yet left are = (left, are, refl)

  pub one_part_more : (place : ℕ) (one nothing : X) (before after first : List ℕ) → place < length all → one ≡ get_or all place nothing →
      after ≡ before ++ first → IsText one first → PartsSoFar place before → PartsSoFar (place + 1) after
  one_part_more place one nothing before after first within is added part so-far left are =
      let these : AreTexts IsText (one ∷ drop (place + 1) all) (first ++ left) = (first, left, refl, part, are) in
      let next : drop place all ≡ one ∷ drop (place + 1) all =
      drop-cons all place nothing within ∙ ap (λ v. v ∷ drop (suc place) all) (sym is) ∙ ap (λ n. one ∷ drop n all) (sym (add-one place)) in
      let whole = so-far (first ++ left) (subst (λ ones. AreTexts IsText ones (first ++ left)) (sym next) these) in
      (whole.0, whole.1, ap (λ text. text ++ left) added ∙ append_assoc before first left ∙ whole.2)

  pub no_part_left : (place : ℕ) (text : List ℕ) → length all ≤ place → PartsSoFar place text →
      (others : List ℕ) × AreTexts IsText all others × (text ≡ old ++ others)
  no_part_left place text past so-far =
      let none : AreTexts IsText (drop place all) [] = subst (λ ones. AreTexts IsText ones []) (sym (drop_all place all past)) refl in
      let whole = so-far [] none in
      (whole.0, whole.1, sym (append-nil text) ∙ whole.2)
