-- The lines of a source after an index.
use Rattle.std.proofs.Common.{◌≡◌, ◌∙◌, ℕ, zero, suc, ◌+◌, ◌-◌, ◌≤◌, false, List, [], ◌∷◌, drop, length, slice_get, nat_eq, ne_eqb, Some, None, arith, refl, sym}
use Rattle.chip_asm.specs.LineViews.{LineFacts, line_at, line_facts}

some-is : {X : Type 0} (x y : X) → Some x ≡ Some y → x ≡ y
some-is x y e = cc

pub first-left : (lines : List (List ℕ)) (i : ℕ) (line : List ℕ) → slice_get lines i ≡ Some line → drop i lines ≡ line ∷ drop (i + 1) lines
first-left [] i line e = cc
first-left (x ∷ lines) zero line e = rw (some-is x line e) refl
first-left (x ∷ lines) (suc i) line e = let next : suc i + 1 ≡ suc (i + 1) = omega arith in rw next (first-left lines i line e)

past : (lines : List LineFacts) (i : ℕ) → slice_get lines i ≡ None → length lines ≤ i
past [] i e = omega arith
past (f ∷ lines) zero e = cc
past (f ∷ lines) (suc i) e = let k = past lines i e in omega arith

-- if no line has the number i + 1, the source has at most i lines
pub none-left : (texts : List (List ℕ)) (i : ℕ) → line_at texts (i + 1) ≡ None → length (line_facts texts) ≤ i
none-left texts i e =
    let other : nat_eq (i + 1) 0 ≡ false = ne_eqb (i + 1) 0 (omega arith) in
    let same : i + 1 - 1 ≡ i = omega arith in
    let read : line_at texts (i + 1) ≡ slice_get (line_facts texts) i = rw (other, same) refl in
    past (line_facts texts) i (sym read ∙ e)
