-- The last lines of `prove`, piece by piece.
use Rattle.std.proofs.Common.{◌≡◌, ◌⊎◌, ◌∙◌, ◌++◌, ℕ, Bool, false, true, List, [], Option, None, Some, Result, Ok, Err, IfOk, inl, inr, refl, ap, append_assoc}
use Rattle.std.specs.Prelude.{IfSome, codes, option_map}
use Rattle.chip_analysis.specs.Proving.{IsCounts}
use Rattle.chip_analysis.specs.inner.Counts.{counts_of, word_of}
use Rattle.chip_analysis.specs.declared.counts.Counts.{Counts}
use Rattle.chip_analysis.specs.declared.progress.Bound.{Bound}
use Rattle.chip_analysis.specs.declared.progress.Bound.TheVariants.{Seconds, Memory, States}

-- one piece more of a text whose beginning is known
pub piece_more : (text longer piece : List ℕ) (before : List ℕ → List ℕ) → ((rest : List ℕ) → text ++ rest ≡ before rest) → longer ≡ text ++ piece →
    (rest : List ℕ) → longer ++ rest ≡ before (piece ++ rest)
piece_more text longer piece before is step rest = ap (λ t. t ++ rest) step ∙ append_assoc text piece rest ∙ is (piece ++ rest)

named : (bound : Option Bound) → IfSome (option_map word_of bound) (λ word. (word ≡ codes "seconds") ⊎ ((word ≡ codes "memory") ⊎ (word ≡ codes "states")))
named None = tt
named (Some Seconds) = inl refl
named (Some Memory) = inr (inl refl)
named (Some States) = inr (inr refl)

pub counted_as_object : {V E : Type 0} (items : V → List ℕ) (result : Result V E) (is_json : Bool) (name : List ℕ) (counts : Counts) → is_json ≡ true →
    IfOk result (λ v. items v ≡ counts_of true name counts) → IfOk result (λ v. IsCounts is_json name counts.is_short (items v))
counted_as_object items (Ok v) is_json name counts object is =
    rw object (record { facts = counts.facts; states = counts.states; bound = option_map word_of counts.bound; named = named counts.bound; is = is })
counted_as_object items (Err e) is_json name counts object is = tt

-- the last lines as text don't depend on a name
pub counted_as_text : {V E : Type 0} (items : V → List ℕ) (result : Result V E) (is_json : Bool) (name : List ℕ) (counts : Counts) → is_json ≡ false →
    IfOk result (λ v. items v ≡ counts_of false [] counts) → IfOk result (λ v. IsCounts is_json name counts.is_short (items v))
counted_as_text items (Ok v) is_json name counts text is =
    rw text (record { facts = counts.facts; states = counts.states; bound = option_map word_of counts.bound; named = named counts.bound; is = is })
counted_as_text items (Err e) is_json name counts text is = tt
