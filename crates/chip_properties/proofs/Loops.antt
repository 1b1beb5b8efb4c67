-- A sum and a condition, piece by piece.
use Rattle.std.proofs.Common.{◌≡◌, ℕ, ◌+◌, List, [], ◌∷◌, ◌++◌, length, Option, Some, None, Result, Ok, Err, inl, inr, ◌⊎◌, refl, ◌∙◌}
use Rattle.std.proofs.lemmas.Bool.{ne_eqb}
use Rattle.std.specs.Result.{IsErrAnd}
use Rattle.chip_lang.specs.declared.lexeme.Lexeme.{Lexeme}
use Rattle.chip_lang.specs.Value.{Symbols}
use Rattle.chip_properties.specs.declared.separator.Separator.{Separator}
use Rattle.chip_properties.specs.declared.fault.Failure.{Failure}
use Rattle.chip_properties.specs.declared.fault.Failure.TheVariants.{OutOfMemory}
use Rattle.chip_properties.specs.inner.Reads.{IsReadAs}
use Rattle.chip_properties.specs.declared.limits.TheConstants.{MOST_TERMS, MOST_COMPARISONS}
use Rattle.chip_properties.specs.SeenProperty.{SeenSum, SeenComparison}
use Rattle.chip_properties.specs.computed.Separated.{before_first, after_first, pieces, pieces_in}
use Rattle.chip_properties.specs.computed.Reading.{added_in, comparison_in, found_with, summed}
use Rattle.chip_properties.proofs.Pieces.{pieces_split}

-- there are no more addends than the limit
pub sum_full : (symbols : Symbols) (s : Separator) (n : ℕ) (x : SeenSum) (ts : List Lexeme) → n ≡ MOST_TERMS
    → summed symbols n x (pieces s 0 ts) ≡ None
sum_full symbols s n x ts h = rw (pieces_split s ts, h) refl

pub sum_fails : (symbols : Symbols) (s : Separator) (n : ℕ) (x : SeenSum) (ts front : List Lexeme) → (n ≡ MOST_TERMS → ⊥)
    → front ≡ before_first s ts → added_in symbols x front ≡ None → summed symbols n x (pieces s 0 ts) ≡ None
sum_fails symbols s n x ts front h e a = rw (pieces_split s ts, ne_eqb n MOST_TERMS h, ← e, a) refl

pub sum_goes_on : (symbols : Symbols) (s : Separator) (n : ℕ) (x y : SeenSum) (ts front : List Lexeme) (back : Option (List Lexeme))
    → (n ≡ MOST_TERMS → ⊥) → front ≡ before_first s ts → back ≡ after_first s ts → added_in symbols x front ≡ Some y
    → summed symbols n x (pieces s 0 ts) ≡ summed symbols (n + 1) y (pieces_in s back)
sum_goes_on symbols s n x y ts front back h e b a = rw (pieces_split s ts, ne_eqb n MOST_TERMS h, ← e, a, b) refl

-- there are no more comparisons than the limit
pub condition_full : (symbols : Symbols) (s : Separator) (x : List SeenComparison) (ts : List Lexeme) → length x ≡ MOST_COMPARISONS
    → found_with symbols x (pieces s 0 ts) ≡ None
condition_full symbols s x ts h = rw (pieces_split s ts, h) refl

pub condition_fails : (symbols : Symbols) (s : Separator) (x : List SeenComparison) (ts front : List Lexeme) → (length x ≡ MOST_COMPARISONS → ⊥)
    → front ≡ before_first s ts → comparison_in symbols front ≡ None → found_with symbols x (pieces s 0 ts) ≡ None
condition_fails symbols s x ts front h e a = rw (pieces_split s ts, ne_eqb (length x) MOST_COMPARISONS h, ← e, a) refl

pub condition_goes_on : (symbols : Symbols) (s : Separator) (x : List SeenComparison) (c : SeenComparison) (ts front : List Lexeme) (back : Option (List Lexeme))
    → (length x ≡ MOST_COMPARISONS → ⊥) → front ≡ before_first s ts → back ≡ after_first s ts → comparison_in symbols front ≡ Some c
    → found_with symbols x (pieces s 0 ts) ≡ found_with symbols (x ++ c ∷ []) (pieces_in s back)
condition_goes_on symbols s x c ts front back h e b a = rw (pieces_split s ts, ne_eqb (length x) MOST_COMPARISONS h, ← e, a, b) refl

-- if a part has a fault, the whole has one
pub failed : {A B C : Type 0} (seen : C → B) (a : Option A) (b : Option B) (r : Result C Failure) (e : Failure)
    → IsErrAnd r (λ y. y ≡ e) → (e ≡ OutOfMemory) ⊎ (a ≡ None) → (a ≡ None → b ≡ None) → IsReadAs seen b r
failed seen a b (Ok x) e is why so = absurd is
failed seen a b (Err y) e is why so = elim why [ inl w ↦ inl (is ∙ w) | inr w ↦ inr (so w) ]
