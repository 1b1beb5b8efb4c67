-- The parts of a text between its commas, and the set of their numbers.
use Rattle.std.proofs.Common.{◌≡◌, ◌∙◌, ℕ, ◌<◌, List, [], ◌∷◌, ◌++◌, length, Option, Some, None, fold, refl, sym, ap, arith}
use Rattle.chip_analysis.specs.Exploring.{AreParts, IsFirstPart, IsSet, comma, with_number}

-- what the parts of the rest of a text make of a set so far is what all parts make of the empty set
abbrev pub Completes : (number : List ℕ → Option ℕ) → (text rest : List ℕ) → (set : Option ℕ) → Type 0
Completes number text rest set =
    (parts : List (List ℕ)) → AreParts rest parts →
    (all : List (List ℕ)) × AreParts text all
    × (fold (λ taken part. with_number taken (number part)) (Some 0) all
    ≡ fold (λ taken part. with_number taken (number part)) set parts)

pub begins : (number : List ℕ → Option ℕ) (text : List ℕ) → Completes number text text (Some 0)
begins number text parts are = (parts, are, refl)

-- a part more
pub goes_on : (number : List ℕ → Option ℕ) (text rest part next : List ℕ) (set more : Option ℕ) → Completes number text rest set →
    IsFirstPart rest part (Some next) → more ≡ with_number set (number part) → Completes number text next more
goes_on number text rest part next set more completes first is [] are = absurd are
goes_on number text rest part next set more completes first is (p ∷ ps) are =
    let all = completes (part ∷ p ∷ ps) (next, first, are) in
    (all.0, all.1, all.2 ∙ ap (λ (s : Option ℕ). fold (λ taken part. with_number taken (number part)) s (p ∷ ps)) (sym is))

-- the last part
pub ends : (number : List ℕ → Option ℕ) (text rest part : List ℕ) (set more : Option ℕ) → Completes number text rest set →
    IsFirstPart rest part None → more ≡ with_number set (number part) → IsSet number text more
ends number text rest part set more completes first is =
    let all = completes (part ∷ []) first in
    (all.0, all.1, is ∙ sym all.2)

-- what follows a comma is shorter
pub shorter : (text part rest : List ℕ) → IsFirstPart text part (Some rest) → length rest < length text
shorter text part rest first = rw first.0 (after_part part rest)
  where
    after_part : (part rest : List ℕ) → length rest < length (part ++ comma ∷ rest)
    after_part [] rest = omega arith
    after_part (x ∷ xs) rest = let further = after_part xs rest in omega (arith, further)
