-- The span of an operand lies within its line.
use Rattle.std.proofs.Common.{◌≡◌, ℕ, zero, suc, ◌≤◌, Bool, true, false, if◌then◌else◌, List, [], ◌∷◌, length, Some, subst, arith}
use Rattle.std.specs.Prelude.{nat_le, IfSome}
use Rattle.chip_lang.specs.declared.fault_place.Span.{Span}
use Rattle.chip_lang.specs.declared.token.Token.{Token}
use Rattle.chip_lang.specs.Scan.{AreTokens}
use Rattle.chip_lang.specs.computed.Tokens.{tokens_of}
use Rattle.chip_lang.proofs.TokenList.{lies_in, these_tokens}
use Rattle.chip_check.specs.Place.{is_comma, operand_end, operand_span, tokens_after}

record EndsIn (line : List ℕ) (place end : ℕ) : Type 0 where
  after : place ≤ end
  inside : end ≤ length line

ends : (line : List ℕ) (place : ℕ) (ts : List Token) → place ≤ length line → AreTokens line place ts → EndsIn line place (operand_end place ts)
ends line place [] h a = record { after = omega arith; inside = h }
ends line place (t ∷ ts) h a =
    let lies = lies_in line t a.2 in
    let later = ends line t.end ts lies.inside a.3 in
    by_comma (is_comma t) (operand_end t.end ts) h (record { after = omega (arith, a.0, lies.rises, later.after); inside = later.inside })
  where
    by_comma : (b : Bool) (end : ℕ) → place ≤ length line → EndsIn line place end → EndsIn line place (if b then place else end)
    by_comma true end h e = record { after = omega arith; inside = h }
    by_comma false end h e = e

pub record IsSpanIn (line : List ℕ) (s : Span) : Type 0 where
  pub rises : s.start ≤ s.end
  pub inside : s.end ≤ length line

spans : (line : List ℕ) (place : ℕ) (index : ℕ) (ts : List Token) → AreTokens line place ts → IfSome (operand_span index ts) (λ s. IsSpanIn line s)
spans line place index [] a = tt
spans line place zero (t ∷ ts) a =
    let lies = lies_in line t a.2 in
    let end = ends line t.end ts lies.inside a.3 in
    record { rises = omega (arith, lies.rises, end.after); inside = end.inside }
spans line place (suc index) (t ∷ ts) a = spans line t.end (if is_comma t then index else suc index) ts a.3

spans_after : (line : List ℕ) (place from index : ℕ) (ts : List Token) → AreTokens line place ts → IfSome (operand_span index (tokens_after from ts)) (λ s. IsSpanIn line s)
spans_after line place from index [] a = tt
spans_after line place from index (t ∷ ts) a = by_place (nat_le from t.start) (spans line place index (t ∷ ts) a) (spans_after line t.end from index ts a.3)
  where
    by_place : (b : Bool) → IfSome (operand_span index (t ∷ ts)) (λ s. IsSpanIn line s) → IfSome (operand_span index (tokens_after from ts)) (λ s. IsSpanIn line s)
        → IfSome (operand_span index (if b then t ∷ ts else tokens_after from ts)) (λ s. IsSpanIn line s)
    by_place true these later = these
    by_place false these later = later

-- the span of an operand, if there is one
pub found_in : (line : List ℕ) (from index : ℕ) (found : Span) → operand_span index (tokens_after from (tokens_of line)) ≡ Some found → IsSpanIn line found
found_in line from index found is = subst (λ o. IfSome o (λ s. IsSpanIn line s)) is (spans_after line 0 from index (tokens_of line) (these_tokens line))
