-- The value that a line had before an edit, if its names keep their values.
use Rattle.std.proofs.Common.{◌≡◌, ℕ, ◌<◌, ℤ, Bool, true, false, cond, ◌&&◌, is_none, if◌then◌else◌, List, [], ◌∷◌, ◌++◌, reverse, length, take, slice_get, refl, ap, sym, ◌∙◌, arith, Option, Some, None, option_map, Ok}
use Rattle.std.specs.List.{list_all}
use Rattle.std.specs.Str.{bytes_eq}
use Rattle.std.proofs.lemmas.List.{get_or-map}
use Rattle.std.proofs.lemmas.Option.{slice_get_within, get_or_from_slice_get}
use Rattle.chip_lang.specs.declared.fault.Fault.TheVariants.{UnclosedIf}
use Rattle.chip_lang.specs.Tree.{Tree}
use Rattle.chip_lang.specs.Line.{Body, equ, org, ds, Reading, bad, read}
use Rattle.chip_lang.specs.Value.{Symbols, value, value_of_name}
use Rattle.chip_lang.specs.Uses.{names_in, has_same_value, agree_on}
use Rattle.chip_symbols.specs.declared.table.Symbol.{Symbol}
use Rattle.chip_symbols.specs.Names.{Name, lookup_name, values_of}
use Rattle.chip_asm.specs.Layout.{Placed, body_of, value_at}
use Rattle.chip_asm.specs.Program.{is_unclosed, names_of_lines}
use Rattle.chip_asm.specs.computed.Walk.{first_fault, is_active, place, placed, symbols}
use Rattle.chip_asm.specs.inner.Placements.{final_placement, placements_of, Found, is_accepted_found}
use Rattle.chip_asm.proofs.Resumed.{faultless, NamesSplit, names-split, next-placed, none_from}
use Rattle.chip_symbols.proofs.NameValues.{value-of-name}
use Rattle.chip_asm.proofs.Placing.{length-numbered}

-- laws of the language

abbrev pub KeepsValue : Type 0
KeepsValue = (e : Tree) (S T : Symbols) (v : ℤ) → ((n : List ℕ) (w : ℤ) → value_of_name S n ≡ Some w → value_of_name T n ≡ Some w) → value e S ≡ Ok v → value e T ≡ Ok v

abbrev pub SameValue : Type 0
SameValue = (e : Tree) (S T : Symbols) → list_all (has_same_value S T) (names_in e) ≡ true → value e S ≡ value e T

-- an accepted line has a value

accepted-value : (all before : List Placed) (line : Reading) → is_accepted_found (final_placement all (place before line)) ≡ true
    → value_at (symbols before) (body_of line) ≡ Ok (place before line).value
unfolding place
accepted-value all before line h = (faultless before line (by (is_active before (body_of line)) (is_unclosed all (place before line)) h)).value
  where
    by : (active unclosed : Bool) → (active && is_none (if unclosed then Some UnclosedIf else (if active then first_fault before line else None))) ≡ true → first_fault before line ≡ None
    by false unclosed h = cc
    by true true h = cc
    by true false h = none_from (first_fault before line) h

value-before : (lines : List Reading) (n : ℕ) (line : Reading) (q : Found) → slice_get lines n ≡ Some line → slice_get (placements_of lines) n ≡ Some q → is_accepted_found q ≡ true
    → value_at (symbols (placed (take n lines))) (body_of line) ≡ Ok q.value
unfolding placements_of
value-before lines n line q at is accepted =
    let inside : n < length lines = slice_get_within lines n line at in
    let before : List Placed = placed (take n lines) in
    let d : Placed = place [] line in
    let found : q ≡ final_placement (placed lines) (place before line)
    = sym (get_or_from_slice_get (placements_of lines) n q q is)
    ∙ get_or-map (final_placement (placed lines)) (reverse (placed lines)) n d q (omega (arith, length-numbered lines))
    ∙ ap (final_placement (placed lines)) (next-placed lines n line d inside (get_or_from_slice_get lines n line line at)) in
    accepted-value (placed lines) before line (ap is_accepted_found (sym found) ∙ accepted) ∙ ap (λ (r : Found). Ok r.value) (sym found)

-- an accepted line keeps its value when names are added

found-first : (names later : List (Name × Symbol)) (name : Name) (s : Symbol) → lookup_name names name ≡ Some s → lookup_name (names ++ later) name ≡ Some s
found-first [] later name s h = cc
found-first (e ∷ es) later name s h = by (bytes_eq name e.0) (found-first es later name s) h
  where
    by : (b : Bool) → (lookup_name es name ≡ Some s → lookup_name (es ++ later) name ≡ Some s)
        → cond b (Some e.1) (lookup_name es name) ≡ Some s → cond b (Some e.1) (lookup_name (es ++ later) name) ≡ Some s
    by true rest h = h
    by false rest h = rest h

more-names : (names later : List (Name × Symbol)) (name : Name) (w : ℤ) → value_of_name (values_of names) name ≡ Some w → value_of_name (values_of (names ++ later)) name ≡ Some w
more-names names later name w h = value-of-name (names ++ later) name ∙ by (lookup_name names name) refl (sym (value-of-name names name) ∙ h)
  where
    by : (o : Option Symbol) → lookup_name names name ≡ o → option_map (λ (s : Symbol). s.value) o ≡ Some w
        → option_map (λ (s : Symbol). s.value) (lookup_name (names ++ later) name) ≡ Some w
    by None e h = cc
    by (Some s) e h = ap (option_map (λ (s : Symbol). s.value)) (found-first names later name s e) ∙ h

still : KeepsValue → (names later : List (Name × Symbol)) (body : Body) (v : ℤ) → value_at names body ≡ Ok v → value_at (names ++ later) body ≡ Ok v
unfolding value_at
still keeps names later (equ e) v h = keeps e (values_of names) (values_of (names ++ later)) v (more-names names later) h
still keeps names later (org e) v h = keeps e (values_of names) (values_of (names ++ later)) v (more-names names later) h
still keeps names later (ds e) v h = keeps e (values_of names) (values_of (names ++ later)) v (more-names names later) h
still keeps names later body v h = h

-- an accepted line keeps its value if its names keep their values

still-read : SameValue → (old new : List (Name × Symbol)) (line : Reading) → agree_on (values_of old) (values_of new) line ≡ true → value_at old (body_of line) ≡ value_at new (body_of line)
unfolding value_at
still-read same old new (bad fault) h = refl
still-read same old new (read label (equ e)) h = same e (values_of old) (values_of new) h
still-read same old new (read label (org e)) h = same e (values_of old) (values_of new) h
still-read same old new (read label (ds e)) h = same e (values_of old) (values_of new) h
still-read same old new (read label body) h = refl

pub value-kept : KeepsValue → SameValue → (lines : List Reading) (n : ℕ) (line : Reading) (q : Found) (new : List (Name × Symbol))
    → slice_get lines n ≡ Some line → slice_get (placements_of lines) n ≡ Some q → is_accepted_found q ≡ true
    → agree_on (values_of (names_of_lines lines)) (values_of new) line ≡ true → value_at new (body_of line) ≡ Ok q.value
value-kept keeps same lines n line q new at is accepted agree =
    let inside : n < length lines = slice_get_within lines n line at in
    let split : NamesSplit lines n = names-split lines n (omega arith) in
    let first = value-before lines n line q at is accepted in
    sym (still-read same (names_of_lines lines) new line agree)
    ∙ ap (λ ns. value_at ns (body_of line)) split.is
    ∙ still keeps (symbols (placed (take n lines))) split.later (body_of line) q.value first
