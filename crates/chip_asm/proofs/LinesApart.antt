-- No name is defined twice, and no address is covered by two lines.
use Rattle.std.proofs.Common.{◌≡◌, ℕ, All, ◌+◌, ◌<◌, ◌≤◌, ◌⊎◌, inr, Bool, true, false, ◌&&◌, ltb, leb, List, [], ◌∷◌, length, reverse, slice_get, filter, refl, sym, subst, arith, Some, cond, ◌++◌, map, Option, None, is_some, option_map, option_to_list}
use Rattle.std.proofs.lemmas.Bool.{and_parts, leb-true, ltb-true}
use Rattle.std.proofs.lemmas.Bool.Decides.{nat_tests}
use Rattle.std.proofs.lemmas.List.Sorted.{All-permutation, IsPermutation-reverse}
use Rattle.std.proofs.lemmas.List.Elements.{All-cons, All-head, All-nil, All-tail, All-weaker}
use Rattle.std.proofs.lemmas.List.{append-nil, map-append}
use Rattle.std.proofs.lemmas.Option.{get_or_from_slice_get, slice_get_within}
use Rattle.chip_lang.specs.Line.{Reading}
use Rattle.chip_asm.specs.Layout.{Placed, body_of, symbol_of, symbol_given, value_given, takes_effect}
use Rattle.chip_asm.specs.computed.Walk.{place, placed, address, symbols}
use Rattle.chip_asm.specs.Program.{covers}
use Rattle.chip_asm.proofs.Resumed.{accepted-faultless, passes}
use Rattle.chip_asm.proofs.Placing.{placed-keeps, symbols-cons, parts, line-at}
use Rattle.std.specs.List.{list_any, IsDistinct}
use Rattle.std.specs.Str.{bytes_eq}
use Rattle.std.specs.Bool.{one_answer}
use Rattle.std.specs.Cmp.{IsEquivalence}
use Rattle.std.proofs.lemmas.Map.Keys.{IsDistinct-push}
use Rattle.std.proofs.lemmas.Slice.Eq.{bytes_eq-Decides}
use Rattle.chip_lang.specs.Uses.{name_defined}
use Rattle.chip_symbols.specs.declared.table.Symbol.{Symbol}
use Rattle.chip_symbols.specs.Names.{Name, lookup_name, is_redefinition}

-- No address is covered by two lines.

-- each of the lines ends at or before an address
abbrev EndBy : ℕ → List Placed → Type 0
EndBy top before = All (λ p. p.here + p.size ≤ top) before

-- the addresses that this many bytes at a place cover

pub covered-parts : (here size at : ℕ) → (leb here at && ltb at (here + size)) ≡ true → (here ≤ at) × (at < here + size)
covered-parts here size at c = let both = and_parts _ _ c in (leb-true here at both.0, ltb-true at (here + size) both.1)

pub covering : (here size at : ℕ) → here ≤ at → at < here + size → (leb here at && ltb at (here + size)) ≡ true
covering here size at low high = grind (arith, nat_tests)

pub outside : (here size at : ℕ) → (at < here) ⊎ (here + size ≤ at) → (leb here at && ltb at (here + size)) ≡ false
outside here size at h = grind (arith, nat_tests)

none-covers : (at top : ℕ) (before : List Placed) → EndBy top before → top ≤ at → filter (covers at) before ≡ []
none-covers at top [] e h = refl
none-covers at top (p ∷ before) e h =
    let not : covers at p ≡ false = outside p.here p.size at (inr (omega (arith, h, All-head (λ (q : Placed). q.here + q.size ≤ top) p before e))) in
    rw not (none-covers at top before (All-tail (λ (q : Placed). q.here + q.size ≤ top) p before e) h)

record Apart (at : ℕ) (before : List Placed) : Type 0 where
  ends : EndBy (address before) before
  few : length (filter (covers at) before) ≤ 1

few-by : (at : ℕ) (p : Placed) (before : List Placed) (b : Bool) → covers at p ≡ b → p.here ≡ address before → Apart at before → length (filter (covers at) (p ∷ before)) ≤ 1
few-by at p before true e here a =
    let low : p.here ≤ at = (covered-parts p.here p.size at e).0 in
    let none : filter (covers at) before ≡ [] = none-covers at (address before) before a.ends (omega (arith, here)) in
    rw (e, none) (omega arith)
few-by at p before false e here a = rw e a.few

next-apart : (at : ℕ) (before : List Placed) (line : Reading) → Apart at before → Apart at (place before line ∷ before)
next-apart at before line a =
    let past = passes before line in
    let here = (parts before line).here in
    record {
      ends = All-cons (λ (p : Placed). p.here + p.size ≤ address (place before line ∷ before)) (place before line) before past
          (All-weaker (λ (p : Placed). p.here + p.size ≤ address before) (λ (p : Placed). p.here + p.size ≤ address (place before line ∷ before)) (λ p low. omega (arith, low)) before a.ends);
      few = few-by at (place before line) before (covers at (place before line)) refl here a;
    }

apart : (lines : List Reading) (at : ℕ) → Apart at (placed lines)
apart lines at = placed-keeps (Apart at) (next-apart at) (record { ends = All-nil (λ (p : Placed). p.here + p.size ≤ address []); few = omega arith }) lines

pub one-covers : (lines : List Reading) (at : ℕ) → length (filter (covers at) (placed lines)) ≤ 1
one-covers lines at = (apart lines at).few

-- each line ends at or before the address after the last one
pub ends-by : (lines : List Reading) (n : ℕ) (x : Placed) → slice_get (reverse (placed lines)) n ≡ Some x → x.here + x.size ≤ address (placed lines)
ends-by lines n x at =
    subst (λ (y : Placed). y.here + y.size ≤ address (placed lines)) (get_or_from_slice_get (reverse (placed lines)) n x x at)
    (All-permutation (λ (p : Placed). p.here + p.size ≤ address (placed lines)) (placed lines) (reverse (placed lines)) (IsPermutation-reverse (placed lines)) (apart lines 0).ends n x (slice_get_within (reverse (placed lines)) n x at))

-- No name is defined twice.

abbrev names_in : List (Name × Symbol) → List Name
names_in = map (λ symbol. symbol.0)

not-among : (es : List (Name × Symbol)) (name : Name) → is_some (lookup_name es name) ≡ false → list_any (bytes_eq name) (names_in es) ≡ false
not-among [] name h = refl
not-among (e ∷ es) name h = by (bytes_eq name e.0) refl (not-among es name) h
  where
    by : (b : Bool) → bytes_eq name e.0 ≡ b → (is_some (lookup_name es name) ≡ false → list_any (bytes_eq name) (names_in es) ≡ false) → is_some (cond b (Some e.1) (lookup_name es name)) ≡ false → list_any (bytes_eq name) (names_in (e ∷ es)) ≡ false
    by true same rest h = cc
    by false other rest h = rw other (rest h)

same-bytes : IsEquivalence bytes_eq
same-bytes = record {
  refl = λ x. (bytes_eq-Decides x x).1 refl;
  symm = λ x y. one_answer (bytes_eq x y) (bytes_eq y x) (bytes_eq-Decides x y) ((λ e. sym ((bytes_eq-Decides y x).0 e)), (λ e. (bytes_eq-Decides y x).1 (sym e)));
  congr = λ x y z e. rw ((bytes_eq-Decides x y).0 e) refl;
}

abbrev Differ : List (Name × Symbol) → Type 0
Differ es = IsDistinct bytes_eq (names_in es)

one-more : (es : List (Name × Symbol)) (given : Option (Name × Symbol)) → ((e : Name × Symbol) → given ≡ Some e → list_any (bytes_eq e.0) (names_in es) ≡ false)
    → Differ es → Differ (es ++ option_to_list given)
one-more es None new d = rw (append-nil es) d
one-more es (Some e) new d =
    rw (map-append (λ (symbol : Name × Symbol). symbol.0) es (e ∷ [])) (IsDistinct-push same-bytes (names_in es) e.0 d (new e refl))

given-name : (es : List (Name × Symbol)) (name : Option Name) (symbol : Symbol) → is_redefinition es name ≡ false
    → (e : Name × Symbol) → option_map (λ n. (n, symbol)) name ≡ Some e → list_any (bytes_eq e.0) (names_in es) ≡ false
given-name es None symbol fresh e h = cc
given-name es (Some name) symbol fresh e h =
    let same : e.0 ≡ name = cc in
    rw same (not-among es name fresh)

given-new : (before : List Placed) (line : Reading) (accepted : Bool) → takes_effect (place before line) ≡ accepted
    → (e : Name × Symbol) → cond accepted (symbol_given (place before line).number (place before line).here (place before line).value (place before line).line) None ≡ Some e
    → list_any (bytes_eq e.0) (names_in (symbols before)) ≡ false
given-new before line true a e h =
    given-name (symbols before) (name_defined (place before line).line) (record { value = value_given (place before line).here (place before line).value (body_of (place before line).line); line = (place before line).number })
    (rw (line-at before line) (accepted-faultless before line a).new) e h
given-new before line false a e h = cc

next-differ : (before : List Placed) (line : Reading) → Differ (symbols before) → Differ (symbols (place before line ∷ before))
next-differ before line d =
    rw (symbols-cons (place before line) before)
    (one-more (symbols before) (symbol_of (place before line)) (given-new before line (takes_effect (place before line)) refl) d)

no-names : Differ (symbols [])
unfolding symbols IsDistinct
no-names = tt

pub names-differ : (lines : List Reading) → Differ (symbols (placed lines))
names-differ lines = placed-keeps (λ before. Differ (symbols before)) next-differ no-names lines
