-- The places of tokens in their line.
use Rattle.std.proofs.Common.{◌≡◌, ℕ, zero, suc, ◌-◌, ◌≤◌, List, [], ◌∷◌, Option, Some, None, length, refl, sym, ap, subst, arith}
use Rattle.std.specs.Prelude.{slice_get}
use Rattle.std.proofs.lemmas.Option.{get_or_from_slice_get, slice_get_within}
use Rattle.chip_lang.specs.declared.token.Token.{Token}
use Rattle.chip_lang.specs.Scan.{AreTokens}
use Rattle.chip_lang.specs.FaultPlace.{end_of}
use Rattle.chip_lang.proofs.TokenList.{LiesIn, each_lies_in}

pub lies : (line : List ℕ) (place : ℕ) (ts : List Token) (i : ℕ) (t : Token) → AreTokens line place ts → slice_get ts i ≡ Some t → LiesIn line t
lies line place ts i t a h =
    subst (LiesIn line) (get_or_from_slice_get ts i t t h) (each_lies_in line place ts i t a (slice_get_within ts i t h))

ends_in : (line : List ℕ) (o : Option Token) → ((t : Token) → o ≡ Some t → LiesIn line t) → end_of o ≤ length line
ends_in line None f = omega arith
ends_in line (Some t) f = (f t refl).inside

-- the end of a token lies in the line
pub ends_inside : (line : List ℕ) (place : ℕ) (ts : List Token) (i : ℕ) → AreTokens line place ts → end_of (slice_get ts i) ≤ length line
ends_inside line place ts i a = ends_in line (slice_get ts i) (λ t h. lies line place ts i t a h)

last : List Token → Option Token
last [] = None
last (t ∷ []) = Some t
last (t ∷ u ∷ ts) = last (u ∷ ts)

last_is : (ts : List Token) → slice_get ts (length ts - 1) ≡ last ts
unfolding last
last_is [] = refl
last_is (t ∷ []) = refl
last_is (t ∷ u ∷ ts) = let e : length (t ∷ u ∷ ts) - 1 ≡ suc (length (u ∷ ts) - 1) = omega arith in rw e (last_is (u ∷ ts))

before : (line : List ℕ) (place : ℕ) (ts : List Token) (i : ℕ) (t : Token) → AreTokens line place ts → slice_get ts i ≡ Some t → t.start ≤ end_of (last ts)
unfolding last
before line place [] i t a h = let none = slice_get_within [] i t h in absurd (omega arith)
before line place (u ∷ []) zero t a h =
    let same : u.start ≡ t.start = ap (λ (x : Token). x.start) (get_or_from_slice_get (u ∷ []) 0 t t h) in
    let lies_there = lies line place (u ∷ []) 0 u a refl in
    omega (arith, lies_there.rises, same)
before line place (u ∷ []) (suc i) t a h = let none = slice_get_within (u ∷ []) (suc i) t h in absurd (omega arith)
before line place (u ∷ v ∷ ts) zero t a h =
    let same : u.start ≡ t.start = ap (λ (x : Token). x.start) (get_or_from_slice_get (u ∷ v ∷ ts) 0 t t h) in
    let lies_there = lies line place (u ∷ v ∷ ts) 0 u a refl in
    let later = before line u.end (v ∷ ts) 0 v a.3 refl in
    let next : u.end ≤ v.start = a.3.0 in
    omega (arith, lies_there.rises, same, later, next)
before line place (u ∷ v ∷ ts) (suc i) t a h = before line u.end (v ∷ ts) i t a.3 h

-- a token begins before the last one ends
pub starts_before : (line : List ℕ) (place : ℕ) (ts : List Token) (i : ℕ) (t : Token) → AreTokens line place ts → slice_get ts i ≡ Some t →
    t.start ≤ end_of (slice_get ts (length ts - 1))
starts_before line place ts i t a h = subst (λ o. t.start ≤ end_of o) (sym (last_is ts)) (before line place ts i t a h)

-- a token begins before it ends, and ends in the line
pub rises : (line : List ℕ) (place : ℕ) (ts : List Token) (i : ℕ) (t : Token) → AreTokens line place ts → slice_get ts i ≡ Some t → t.start ≤ t.end
rises line place ts i t a h = omega (arith, (lies line place ts i t a h).rises)

pub stays_inside : (line : List ℕ) (place : ℕ) (ts : List Token) (i : ℕ) (t : Token) → AreTokens line place ts → slice_get ts i ≡ Some t → t.end ≤ length line
stays_inside line place ts i t a h = (lies line place ts i t a h).inside

pub ruleset span_steps = (starts_before, ends_inside, rises, stays_inside)
