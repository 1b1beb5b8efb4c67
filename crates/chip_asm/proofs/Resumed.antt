-- The first lines of a source, the next one, and the address of each line.
use Rattle.std.proofs.Common.{◌≡◌, ◌-◌, Bool, true, false, ◌&&◌, ◌||◌, List, [], ◌∷◌, ◌++◌, map, reverse, fold, length, length-append, refl, ap, sym, subst, ◌∙◌, Some, None, slice_get, arith, ℕ, ◌+◌, ℤ, not, is_none, if◌then◌else◌, Option, Ok, Err, option_to_list, Result, ◌<◌, ◌≤◌, cond, take, drop, get_or, filter_map, option_map, append_assoc, All, pos, negsuc, unsigned_abs}
use Rattle.std.specs.List.{list_all}
use Rattle.std.proofs.lemmas.List.Folds.{list_all-append, list_all-map}
use Rattle.chip_lang.specs.Line.{Body, Reading, ifdef, ifund, else_line, endif, align, org, bad, read}
use Rattle.chip_asm.specs.declared.block.Block.{Block}
use Rattle.chip_asm.specs.Layout.{Placed, body_of, has_ended, is_if_body, is_side_or_end, full_size, value_at, value_or_zero, is_end_body, condition_of, symbol_given, is_if, is_align_body, is_endif, takes_effect, symbol_of, value_given, is_org_body, is_backwards, is_past_end, is_negative_space}
use Rattle.chip_asm.specs.computed.Walk.{place, placed, is_active, enclosing, first_fault, symbols, is_aligning, address, fault_of_value, is_misplaced}
use Rattle.chip_asm.specs.inner.Placements.{block_of, Follows, placement_of, next_address, next_aligning, Found, is_accepted_found, found, IsLayoutOf, first_placements, final_placement, placements_of}
use Rattle.chip_asm.specs.inner.Blocks.{AreNested, moved, turn_first, close_first}
use Rattle.chip_asm.proofs.BlockSteps.{reverse-cons, list_all-reverse}
use Rattle.chip_asm.proofs.PlacesAgree.{at-end}
use Rattle.chip_asm.proofs.OpenBlocks.{IsNumbered, blocks-cons, open_blocks, rest_of, enclosing-open}
use Rattle.chip_asm.proofs.Placing.{cons-option, has_ended-cons, address-cons, aligning-cons, symbols-cons, onto, line-at, numbered-place, placed-keeps, placed-push, numbered-next, length-placed, fold-append, numbered, length-numbered, parts}
use Rattle.chip_lang.specs.declared.fault.Fault.{Fault}
use Rattle.chip_asm.specs.declared.pass.Pass.{Pass}
use Rattle.std.proofs.Math.Seq.{take-append_seam, get_or-append_seam}
use Rattle.std.proofs.lemmas.List.{append-nil, map-append, length-map, take-append-drop, length-take-le, take_at, take_more, length-take, take-map, get_or-take}
use Rattle.std.proofs.lemmas.List.Elements.{filter_map-append, All-nil, All-cons, All-head, All-tail, All-append, All-weaker, All-map}
use Rattle.std.proofs.lemmas.List.Sorted.{All-permutation, IsPermutation-reverse}
use Rattle.chip_lang.specs.Uses.{name_defined}
use Rattle.chip_symbols.specs.Names.{Name, is_redefinition}
use Rattle.chip_asm.specs.declared.layout.Layout.{Layout}
use Rattle.chip_symbols.specs.declared.table.Symbol.{Symbol}
use Rattle.chip_asm.specs.Program.{names_of_lines}
use Rattle.chip_asm.specs.inner.Infos.{is_steady, AreInfos, AreSteady}
use Rattle.chip_symbols.specs.Tables.{AreOver, AreUpTo}
use Rattle.std.specs.Prelude.{int_lt}
use Rattle.std.proofs.lemmas.Bool.{and_parts, and_right, ltb-false, not-true, or_from, or_parts}
use Rattle.chip_lang.specs.declared.limits.TheConstants.{IMAGE_START, MEMORY_BYTES}
use Rattle.std.proofs.lemmas.Option.{get_or_from_slice_get, slice_get_within}
use Rattle.chip_asm.specs.declared.edit.LineEdit.{LineEdit}
use Rattle.chip_asm.specs.inner.KeptLine.{KeptLine}
use Rattle.chip_asm.specs.inner.Records.{IsPlaceWithin, lines_after, reading_in, readings_in, first_changed}
use Rattle.chip_asm.proofs.LinesAfter.{Edited, edited-lines, first-within, same-front, shorter}

-- The state of the pass after one more line.

-- An IF line is active if and only if the blocks around it hold, unless there was an END.

-- a fact about the open blocks if there was no END
abbrev pub Nests : List Placed → Type 0
Nests before = has_ended before ≡ false → AreNested (map (block_of before) (enclosing before))

nested-turned : (bs : List Block) → AreNested bs → AreNested (turn_first bs)
nested-turned [] n = tt
nested-turned (b ∷ bs) n = by b.has_else refl
  where
    by : (e : Bool) → b.has_else ≡ e → AreNested (turn_first (b ∷ bs))
    by true e = rw e n
    by false e = rw e n

nested-closed : (bs : List Block) → AreNested bs → AreNested (close_first bs)
nested-closed [] n = tt
nested-closed (b ∷ bs) n = n.1

nested-moved : (body : Body) (opened : Block) (bs : List Block) → (is_if_body body ≡ true → opened.active ≡ list_all (λ (o : Block). o.holds) bs) → AreNested bs → AreNested (moved body opened bs)
nested-moved (ifdef name) opened bs o n = (o refl, n)
nested-moved (ifund name) opened bs o n = (o refl, n)
nested-moved else_line opened bs o n = nested-turned bs n
nested-moved endif opened bs o n = nested-closed bs n
nested-moved _ opened bs o n = n

if_not_side : (body : Body) → is_if_body body ≡ true → is_side_or_end body ≡ false
if_not_side (ifdef name) e = refl
if_not_side (ifund name) e = refl
if_not_side _ e = cc

active-if : (before : List Placed) (body : Body) → is_if_body body ≡ true → has_ended before ≡ false
    → is_active before body ≡ list_all (λ (o : Block). o.holds) (map (block_of before) (enclosing before))
unfolding is_active
active-if before body e yet = rw (if_not_side body e, yet) (sym (list_all-map (λ (o : Block). o.holds) (block_of before) (enclosing before)))

nests-place : (before : List Placed) (line : Reading) → IsNumbered before → Nests before → Nests (place before line ∷ before)
nests-place before line numbered n yet =
    let p = place before line in
    let bs = map (block_of before) (enclosing before) in
    let no_end : has_ended before ≡ false = (or_parts _ (has_ended before) (sym (has_ended-cons p before) ∙ yet)).1 in
    let opened : Block = record { number = p.number; active = p.active; holds = p.condition; has_else = false } in
    let active : is_if_body (body_of p.line) ≡ true → opened.active ≡ list_all (λ (o : Block). o.holds) bs =
    λ e. (parts before line).active ∙ active-if before (body_of line) (ap (λ l. is_if_body (body_of l)) (sym (line-at before line)) ∙ e) no_end in
    subst AreNested (sym (blocks-cons p before (numbered-place before line numbered))) (nested-moved (body_of p.line) opened bs active (n no_end))

nests-none : Nests []
unfolding enclosing
nests-none yet = tt

-- the open blocks are nested after any lines
pub nested-placed : (lines : List Reading) → Nests (placed lines)
nested-placed lines = (placed-keeps (λ before. IsNumbered before × Nests before) (λ before line n. (numbered-place before line n.0, nests-place before line n.0 n.1)) (tt, nests-none) lines).1

and_true : (a b : Bool) → (a && (b && true)) ≡ (a && b)
and_true true true = refl
and_true true false = refl
and_true false b = refl

-- the last block determines whether all blocks hold
pub all-by-last : (items nearest : List Block) (b : Block) → items ≡ reverse nearest → AreNested nearest → slice_get items (length items - 1) ≡ Some b
    → (b.active && b.holds) ≡ list_all (λ (o : Block). o.holds) items
all-by-last items [] b e n at = let none : Some b ≡ None = sym at ∙ ap (λ (l : List Block). slice_get l (length items - 1)) e in cc
all-by-last items (x ∷ outer) b e n at =
    let split : items ≡ reverse outer ++ x ∷ [] = e ∙ reverse-cons x outer in
    let place_of : length items - 1 ≡ length (reverse outer) = omega (arith, ap length split, length-append (reverse outer) (x ∷ [])) in
    let there : slice_get (reverse outer ++ x ∷ []) (length (reverse outer)) ≡ Some b = rw (sym split, sym place_of) at in
    let same : x ≡ b = (let here = at-end (reverse outer) [] x in cc) in
    let whole : list_all (λ (o : Block). o.holds) items ≡ (list_all (λ (o : Block). o.holds) (reverse outer) && (x.holds && true))
    = ap (list_all (λ (o : Block). o.holds)) split ∙ list_all-append (λ (o : Block). o.holds) (reverse outer) (x ∷ []) in
    ap (λ (o : Block). o.active && o.holds) (sym same) ∙ ap (λ l. l && x.holds) (n.0 ∙ sym (list_all-reverse (λ (o : Block). o.holds) outer)) ∙ sym (and_true _ x.holds) ∙ sym whole

-- the parts of a placement, one by one
pub placement-at : (before : List Placed) (line : Reading) (active : Bool) (here : ℕ) (fault : Option Fault) (value : ℤ) (size : ℕ)
    → active ≡ is_active before (body_of line) → here ≡ address before
    → value ≡ value_or_zero (value_at (symbols before) (body_of line))
    → fault ≡ (if active then first_fault before line else None)
    → size ≡ (if active && is_none fault then full_size (is_aligning before) here (body_of line) value else 0)
    → (let made : Found = record { active = active; here = here; fault = fault; value = value; size = size } in made ≡ placement_of (place before line))
unfolding place
placement-at before line active here fault value size l h v f s = rw (s, f, v, h, l) refl

-- the state of the pass after a line with these facts
pub record Advances (pass next : Pass) (line : Reading) (q : Found) (number : ℕ) : Type 0 where
  pub at_address : next.here ≡ next_address (is_accepted_found q) pass.here (body_of line) q.value q.size
  pub aligning : next.aligning ≡ next_aligning (is_accepted_found q) pass.aligning (body_of line)
  pub ended : next.ended ≡ ((q.active && is_end_body (body_of line)) || pass.ended)
  pub names : next.names.symbols ≡ pass.names.symbols ++ option_to_list (if is_accepted_found q then symbol_given number pass.here q.value line else None)
  pub open_blocks : (nearest : List Block) → pass.blocks.items ≡ reverse nearest
      → next.blocks.items ≡ reverse (moved (body_of line) (record { number = number; active = q.active; holds = condition_of pass.names.symbols (body_of line); has_else = false }) nearest)
  pub active : (nearest : List Block) → next.blocks.items ≡ reverse nearest → (next.ended ≡ false → AreNested nearest)
      → next.active ≡ (not next.ended && list_all (λ b. b.holds) next.blocks.items)

condition-at : (before : List Placed) (line : Reading) → (place before line).condition ≡ condition_of (symbols before) (body_of (place before line).line)
unfolding place
condition-at before line = refl

blocks-next : (pass next : Pass) (before : List Placed) (p : Placed) (number : ℕ) → IsNumbered (p ∷ before) → number ≡ p.number
    → p.condition ≡ condition_of (symbols before) (body_of p.line) → Follows pass before → Advances pass next p.line (placement_of p) number
    → next.blocks.items ≡ reverse (map (block_of (p ∷ before)) (enclosing (p ∷ before)))
blocks-next pass next before p number numbered is_number at_condition f a =
    let turned_to = λ (holding : Bool). reverse (moved (body_of p.line) (record { number = number; active = p.active; holds = holding; has_else = false }) (map (block_of before) (enclosing before))) in
    let e : next.blocks.items ≡ turned_to (condition_of pass.names.symbols (body_of p.line)) = a.open_blocks (map (block_of before) (enclosing before)) f.open_blocks in
    let k : condition_of pass.names.symbols (body_of p.line) ≡ p.condition = ap (λ names. condition_of names (body_of p.line)) f.names ∙ sym at_condition in
    e ∙ ap turned_to k ∙ (rw is_number (ap reverse (sym (blocks-cons p before numbered))))

follows-next : (pass next : Pass) (before : List Placed) (p : Placed) (number : ℕ) → IsNumbered (p ∷ before) → Nests (p ∷ before) → p.here ≡ address before
    → p.condition ≡ condition_of (symbols before) (body_of p.line) → number ≡ p.number
    → Follows pass before → Advances pass next p.line (placement_of p) number → Follows next (p ∷ before)
follows-next pass next before p number numbered nests at_here at_condition is_number f a =
    let ended : next.ended ≡ has_ended (p ∷ before) = a.ended ∙ (rw f.ended (sym (has_ended-cons p before))) in
    let open_blocks = blocks-next pass next before p number numbered is_number at_condition f a in
    record {
      at_address = a.at_address ∙ (rw f.at_address (sym (address-cons p before)));
      aligning = a.aligning ∙ (rw f.aligning (sym (aligning-cons p before)));
      ended = ended;
      open_blocks = open_blocks;
      names = a.names ∙ (rw (f.names, f.at_address, ← at_here, is_number) (sym (symbols-cons p before)));
      active = a.active (map (block_of (p ∷ before)) (enclosing (p ∷ before))) open_blocks (λ yet. nests (sym ended ∙ yet));
    }

-- a list of lines, and one more line
pub follows-push : (pass next : Pass) (lines : List Reading) (line : Reading) (number : ℕ) (q : Found) → number ≡ length lines + 1
    → Follows pass (placed lines) → q ≡ placement_of (place (placed lines) line) → Advances pass next line q number → Follows next (placed (lines ++ line ∷ []))
follows-push pass next lines line number q n f e a =
    let found : Advances pass next line (placement_of (place (placed lines) line)) number = subst (λ (r : Found). Advances pass next line r number) e a in
    let here : Advances pass next (place (placed lines) line).line (placement_of (place (placed lines) line)) number
    = subst (λ (l : Reading). Advances pass next l (placement_of (place (placed lines) line)) number) (sym (line-at (placed lines) line)) found in
    rw placed-push
    (follows-next pass next (placed lines) (place (placed lines) line) number (numbered-next lines line) (subst Nests (placed-push lines line) (nested-placed (lines ++ line ∷ []))) (parts (placed lines) line).here (condition-at (placed lines) line)
    (n ∙ ap (λ k. k + 1) (sym (length-placed lines)) ∙ sym (parts (placed lines) line).number) f here)

pub none_from : (o : Option Fault) → is_none o ≡ true → o ≡ None
none_from None h = refl
none_from (Some x) h = cc

-- if the result of the expression causes no fault, its value causes none
pub fits_at : (a : Bool) (here : ℕ) (body : Body) (read : Result ℤ Fault) (v : ℤ) → v ≡ value_or_zero read → fault_of_value a here body read ≡ None → fault_of_value a here body (Ok v) ≡ None
unfolding fault_of_value
fits_at a here body (Ok w) v e h = rw e h
fits_at a here body (Err f) v e h = cc

-- The first lines of a source, and the address of each line.

-- The facts about the first lines of a source are the first part of the facts about all lines.

-- the first part

abbrev Above : ℕ → List Placed → Type 0
Above n ps = All (λ p. n < p.number) ps

record Begins (before all : List Placed) : Type 0 where
  rest : List Placed
  is : reverse all ≡ reverse before ++ rest
  later : Above (length before) rest

begins-fold : (before : List Placed) (lines : List Reading) → Begins before (fold onto before lines)
begins-fold before [] = record { rest = []; is = sym (append-nil (reverse before)); later = All-nil (λ p. length before < p.number) }
begins-fold before (line ∷ lines) =
    let b : Begins (onto before line) (fold onto (onto before line) lines) = begins-fold (onto before line) lines in
    let P : ℕ → Placed → Type 0 = λ n p. n < p.number in
    let weaker : (p : Placed) → P (length (onto before line)) p → P (length before) p = λ p h. omega (arith, h) in
    record {
      rest = place before line ∷ b.rest;
      is = b.is ∙ ap (λ xs. xs ++ b.rest) (reverse-cons (place before line) before) ∙ append_assoc (reverse before) (place before line ∷ []) b.rest;
      later = All-cons (P (length before)) (place before line) b.rest (omega (arith, (parts before line).number)) (All-weaker (P (length (onto before line))) (P (length before)) weaker b.rest b.later);
    }

begins-append : (xs ys : List Reading) → Begins (placed xs) (placed (xs ++ ys))
unfolding placed
begins-append xs ys = subst (λ (ps : List Placed). Begins (fold onto [] xs) ps) (sym (fold-append [] xs ys)) (begins-fold (fold onto [] xs) ys)

begins : (lines : List Reading) (n : ℕ) → Begins (placed (take n lines)) (placed lines)
begins lines n = subst (λ (ls : List Reading). Begins (placed (take n lines)) (placed ls)) (take-append-drop n lines) (begins-append (take n lines) (drop n lines))

length-first : (lines : List Reading) (n : ℕ) → n ≤ length lines → length (reverse (placed (take n lines))) ≡ n
length-first lines n h = length-numbered (take n lines) ∙ length-take-le n lines h

pub first-placed : (lines : List Reading) (n : ℕ) → n ≤ length lines → take n (reverse (placed lines)) ≡ reverse (placed (take n lines))
first-placed lines n h = let b : Begins (placed (take n lines)) (placed lines) = begins lines n in ap (take n) b.is ∙ take_at (reverse (placed (take n lines))) b.rest n (length-first lines n h)

-- steady lines

record IsSteady (body : Body) : Type 0 where
  no_if : is_if_body body ≡ false
  no_end : is_end_body body ≡ false
  no_align : is_align_body body ≡ false

steady-body : (body : Body) → is_steady body ≡ true → IsSteady body
steady-body body s =
    let both = and_parts (not (is_if_body body) && not (is_end_body body)) (not (is_align_body body)) s in
    let front = and_parts (not (is_if_body body)) (not (is_end_body body)) both.0 in
    record { no_if = not-true _ front.0; no_end = not-true _ front.1; no_align = not-true _ both.1 }

abbrev AreSteadyLines : List Placed → Type 0
AreSteadyLines [] = Unit {0}
AreSteadyLines (p ∷ before) = IsSteady (body_of p.line) × AreSteadyLines before

abbrev pub AllSteady : List Reading → Type 0
AllSteady lines = All (λ line. is_steady (body_of line) ≡ true) lines

steady-fold : (before : List Placed) (lines : List Reading) → AreSteadyLines before → AllSteady lines → AreSteadyLines (fold onto before lines)
steady-fold before [] s h = s
steady-fold before (line ∷ lines) s h =
    steady-fold (onto before line) lines (rw line-at (steady-body (body_of line) (All-head (λ (l : Reading). is_steady (body_of l) ≡ true) line lines h)), s)
    (All-tail (λ (l : Reading). is_steady (body_of l) ≡ true) line lines h)

steady-placed : (lines : List Reading) → AllSteady lines → AreSteadyLines (placed lines)
unfolding placed
steady-placed lines h = steady-fold [] lines tt h

no-open : (before : List Placed) → AreSteadyLines before → open_blocks before ≡ []
no-open [] s = refl
no-open (p ∷ before) s =
    let i : is_if p ≡ false = s.0.no_if in
    rw (i, no-open before s.1) (none (is_endif p))
  where
    none : (e : Bool) → cond e (rest_of {X = Placed} []) [] ≡ []
    none true = refl
    none false = refl

no-blocks : (before : List Placed) → AreSteadyLines before → enclosing before ≡ []
no-blocks before s = enclosing-open before ∙ no-open before s

none-ended : has_ended [] ≡ false
unfolding has_ended
none-ended = refl

not-ended : (before : List Placed) → AreSteadyLines before → has_ended before ≡ false
not-ended [] s = none-ended
not-ended (p ∷ before) s = has_ended-cons p before ∙ or_from _ _ (and_right p.active _ s.0.no_end) (not-ended before s.1)

aligning-kept : (a b : Bool) (body : Body) → is_align_body body ≡ false → next_aligning a b body ≡ b
aligning-kept a b (align on) h = cc
aligning-kept a b _ h = refl

at-start : is_aligning [] ≡ true
unfolding is_aligning
at-start = refl

still-aligning : (before : List Placed) → AreSteadyLines before → is_aligning before ≡ true
still-aligning [] s = at-start
still-aligning (p ∷ before) s = aligning-cons p before ∙ aligning-kept (takes_effect p) (is_aligning before) (body_of p.line) s.0.no_align ∙ still-aligning before s.1

-- placements

map-reverse : (f : Placed → Found) (xs : List Placed) → map f (reverse xs) ≡ reverse (map f xs)
map-reverse f [] = refl
map-reverse f (x ∷ xs) = ap (map f) (reverse-cons x xs) ∙ map-append f (reverse xs) (x ∷ []) ∙ ap (λ l. l ++ f x ∷ []) (map-reverse f xs) ∙ sym (reverse-cons (f x) (map f xs))

final-steady : (all : List Placed) (p : Placed) → is_if p ≡ false → final_placement all p ≡ placement_of p
final-steady all p e = rw e refl

map-steady : (all before : List Placed) → AreSteadyLines before → map (final_placement all) before ≡ map placement_of before
map-steady all [] s = refl
map-steady all (p ∷ before) s = rw (final-steady all p s.0.no_if, map-steady all before s.1) refl

placements-before : (lines : List Reading) (n : ℕ) → n ≤ length lines → AreSteadyLines (placed (take n lines)) → take n (placements_of lines) ≡ first_placements (take n lines)
unfolding placements_of first_placements
placements-before lines n h s =
    let b : Begins (placed (take n lines)) (placed lines) = begins lines n in
    let before : List Placed = placed (take n lines) in
    let f : Placed → Found = final_placement (placed lines) in
    let whole : map f (reverse (placed lines)) ≡ map f (reverse before) ++ map f b.rest = ap (map f) b.is ∙ map-append f (reverse before) b.rest in
    let long : n ≡ length (map f (reverse before)) = sym (length-map (reverse before) f ∙ length-first lines n h) in
    ap (take n) whole ∙ ap (λ k. take k (map f (reverse before) ++ map f b.rest)) long ∙ take-append_seam (map f (reverse before)) (map f b.rest)
    ∙ map-reverse f before ∙ ap reverse (map-steady (placed lines) before s) ∙ sym (map-reverse placement_of before)

-- the line at a place

pub next-placed : (lines : List Reading) (n : ℕ) (line : Reading) (d : Placed) → n < length lines → get_or lines n line ≡ line → get_or (reverse (placed lines)) n d ≡ place (placed (take n lines)) line
next-placed lines n line d h e =
    let before : List Placed = placed (take n lines) in
    let b : Begins (placed (take (n + 1) lines)) (placed lines) = begins lines (n + 1) in
    let first : placed (take (n + 1) lines) ≡ place before line ∷ before = ap placed (take_more lines n line h ∙ ap (λ y. take n lines ++ y ∷ []) e) ∙ placed-push (take n lines) line in
    let whole : reverse (placed lines) ≡ reverse before ++ place before line ∷ b.rest
    = b.is ∙ ap (λ ps. reverse ps ++ b.rest) first ∙ ap (λ xs. xs ++ b.rest) (reverse-cons (place before line) before) ∙ append_assoc (reverse before) (place before line ∷ []) b.rest in
    let long : n ≡ length (reverse before) = sym (length-first lines n (omega arith)) in
    ap (λ xs. get_or xs n d) whole ∙ ap (λ k. get_or (reverse before ++ place before line ∷ b.rest) k d) long ∙ get_or-append_seam (reverse before) (place before line) b.rest d

-- symbols

entry : Placed → Name → Name × Symbol
entry p name = (name, record { value = value_given p.here p.value (body_of p.line); line = p.number })

-- the name that a line with its own number defines is a symbol of that line
given : (P : ℕ → Type 0) (p : Placed) → P p.number → All (λ (e : Name × Symbol). P e.1.line) (option_to_list (symbol_of p))
unfolding entry
given P p h = by (takes_effect p) (name_defined p.line)
  where
    by : (a : Bool) (o : Option Name) → All (λ (e : Name × Symbol). P e.1.line) (option_to_list (cond a (option_map (entry p) o) None))
    by true None = All-nil (λ (e : Name × Symbol). P e.1.line)
    by true (Some name) = All-cons (λ (e : Name × Symbol). P e.1.line) (entry p name) [] h (All-nil (λ (e : Name × Symbol). P e.1.line))
    by false o = All-nil (λ (e : Name × Symbol). P e.1.line)

symbols-none : symbols [] ≡ []
unfolding symbols
symbols-none = refl

given-up-to : (n : ℕ) (before : List Placed) → IsNumbered before → length before ≤ n → AreUpTo n (symbols before)
given-up-to n [] numbered h = rw symbols-none (All-nil (λ (e : Name × Symbol). e.1.line ≤ n))
given-up-to n (p ∷ before) numbered h =
    rw symbols-cons (All-append (λ (e : Name × Symbol). e.1.line ≤ n) (symbols before) (option_to_list (symbol_of p)) (given-up-to n before numbered.2 (omega arith)) (given (λ k. k ≤ n) p (omega (arith, numbered.0))))

given-over : (n : ℕ) (ps : List Placed) → Above n ps → AreOver n (filter_map symbol_of ps)
given-over n [] a = All-nil (λ (e : Name × Symbol). n < e.1.line)
given-over n (p ∷ ps) a =
    let Q : Name × Symbol → Type 0 = λ e. n < e.1.line in
    let first = given (λ k. n < k) p (All-head (λ (p : Placed). n < p.number) p ps a) in
    let others = given-over n ps (All-tail (λ (p : Placed). n < p.number) p ps a) in
    rw (cons-option (symbol_of p) (filter_map symbol_of ps)) (All-append Q (option_to_list (symbol_of p)) (filter_map symbol_of ps) first others)

symbols-begin : (before all : List Placed) (b : Begins before all) → symbols all ≡ symbols before ++ filter_map symbol_of b.rest
unfolding symbols
symbols-begin before all b = ap (filter_map symbol_of) b.is ∙ filter_map-append symbol_of (reverse before) b.rest

-- the symbols that the first lines define, and the symbols that the other lines define
pub record NamesSplit (lines : List Reading) (n : ℕ) : Type 0 where
  pub later : List (Name × Symbol)
  pub is : names_of_lines lines ≡ symbols (placed (take n lines)) ++ later
  pub early : AreUpTo n (symbols (placed (take n lines)))
  pub late : AreOver n later

pub names-split : (lines : List Reading) (n : ℕ) → n ≤ length lines → NamesSplit lines n
names-split lines n h =
    let b : Begins (placed (take n lines)) (placed lines) = begins lines n in
    let long : length (placed (take n lines)) ≡ n = length-placed (take n lines) ∙ length-take-le n lines h in
    record {
      later = filter_map symbol_of b.rest;
      is = symbols-begin (placed (take n lines)) (placed lines) b;
      early = given-up-to n (placed (take n lines)) (numbered (take n lines)) (omega arith);
      late = given-over n b.rest (subst (λ (k : ℕ). Above k b.rest) long b.later);
    }

-- the facts about the first lines

pub length-laid : (layout : Layout) (lines : List Reading) → IsLayoutOf layout lines → length layout.placements.items ≡ length lines
unfolding placements_of
length-laid layout lines laid = sym (length-map layout.placements.items found) ∙ ap length laid.placements ∙ length-map (reverse (placed lines)) (final_placement (placed lines)) ∙ length-numbered lines

-- the state of the pass after steady lines
pub record Resumes (before : List Placed) : Type 0 where
  pub aligning : is_aligning before ≡ true
  pub ended : has_ended before ≡ false
  pub open_blocks : enclosing before ≡ []

pub resumes : (lines : List Reading) → AllSteady lines → Resumes (placed lines)
resumes lines h =
    let s : AreSteadyLines (placed lines) = steady-placed lines h in
    record { aligning = still-aligning (placed lines) s; ended = not-ended (placed lines) s; open_blocks = no-blocks (placed lines) s }

-- an old layout contains the placements of its first lines if they are steady
pub first-laid : (layout : Layout) (lines : List Reading) (n : ℕ) → IsLayoutOf layout lines → n ≤ length lines → AllSteady (take n lines) → take n (map found layout.placements.items) ≡ first_placements (take n lines)
first-laid layout lines n laid h steady = ap (take n) laid.placements ∙ placements-before lines n h (steady-placed (take n lines) steady)

-- Each line is within the memory, from the start of the image on.

-- the room that an accepted line leaves
record Fits (here : ℕ) (body : Body) (value : ℤ) (size : ℕ) : Type 0 where
  after : here + size ≤ cond (is_org_body body) (unsigned_abs value) (here + size)
  high : cond (is_org_body body) (unsigned_abs value) (here + size) ≤ MEMORY_BYTES

org-range : (here : ℕ) (v : ℤ) → int_lt v (pos here) ≡ false → int_lt (pos MEMORY_BYTES) v ≡ false → (here ≤ unsigned_abs v) × (unsigned_abs v ≤ MEMORY_BYTES)
org-range here (pos n) a b = (ltb-false n here a, ltb-false MEMORY_BYTES n b)
org-range here (negsuc n) a b = cc

fits-by : (a : Bool) (here : ℕ) (body : Body) (v : ℤ) → is_backwards here body v ≡ false → is_past_end a here body v ≡ false → Fits here body v (full_size a here body v)
fits-by true here (org e) v b p = let r = org-range here v b p in record { after = (let k = r.0 in omega arith); high = r.1 }
fits-by false here (org e) v b p = let r = org-range here v b p in record { after = (let k = r.0 in omega arith); high = r.1 }
fits-by a here body v b p = let k = ltb-false MEMORY_BYTES (here + full_size a here body v) p in record { after = omega arith; high = k }

no_fault : {A : Type 0} (b : Bool) (f : A) (rest : Option A) → cond b (Some f) rest ≡ None → (b ≡ false) × (rest ≡ None)
no_fault true f rest e = cc
no_fault false f rest e = (refl, e)

-- the facts about a line without a fault
pub record Faultless (before : List Placed) (line : Reading) : Type 0 where
  pub new : is_redefinition (symbols before) (name_defined line) ≡ false
  pub value : value_at (symbols before) (body_of line) ≡ Ok (value_or_zero (value_at (symbols before) (body_of line)))
  pub forwards : is_backwards (address before) (body_of line) (value_or_zero (value_at (symbols before) (body_of line))) ≡ false
  pub within : is_past_end (is_aligning before) (address before) (body_of line) (value_or_zero (value_at (symbols before) (body_of line))) ≡ false

value-faultless : (a : Bool) (here : ℕ) (body : Body) (r : Result ℤ Fault) → fault_of_value a here body r ≡ None
    → (r ≡ Ok (value_or_zero r)) × (is_backwards here body (value_or_zero r) ≡ false) × (is_past_end a here body (value_or_zero r) ≡ false)
unfolding fault_of_value
value-faultless a here body (Err f) e = cc
value-faultless a here body (Ok v) e =
    let first = no_fault (is_negative_space body v) _ _ e in
    let second = no_fault (is_backwards here body v) _ _ first.1 in
    (refl, second.0, (no_fault (is_past_end a here body v) _ _ second.1).0)

pub faultless : (before : List Placed) (line : Reading) → first_fault before line ≡ None → Faultless before line
unfolding first_fault
faultless before (bad f) e = cc
faultless before (read label body) e =
    let first = no_fault (is_misplaced before body) _ _ e in
    let second = no_fault (is_redefinition (symbols before) label) _ _ first.1 in
    let third = value-faultless (is_aligning before) (address before) body (value_at (symbols before) body) second.1 in
    record { new = second.0; value = third.0; forwards = third.1; within = third.2 }

active-faultless : (before : List Placed) (line : Reading) (active : Bool) → (active && is_none (cond active (first_fault before line) None)) ≡ true → Faultless before line
active-faultless before line true e = faultless before line (none_from (first_fault before line) e)
active-faultless before line false e = cc

pub accepted-faultless : (before : List Placed) (line : Reading) → takes_effect (place before line) ≡ true → Faultless before line
unfolding place
accepted-faultless before line e = active-faultless before line (is_active before (body_of line)) e

-- the address of a line after these lines
record Stands (before : List Placed) (p : Placed) : Type 0 where
  here : p.here ≡ address before
  fits : takes_effect p ≡ true → Fits (address before) (body_of p.line) p.value p.size
  none : takes_effect p ≡ false → p.size ≡ 0

stands : (before : List Placed) (line : Reading) → Stands before (place before line)
unfolding place
stands before line = record {
  here = refl;
  fits = λ e. (let f = active-faultless before line (is_active before (body_of line)) e in rw e (fits-by (is_aligning before) (address before) (body_of line) _ f.forwards f.within));
  none = λ e. rw e refl;
}

-- within memory
abbrev pub IsWithinMemory : Placed → Type 0
IsWithinMemory p = (IMAGE_START ≤ p.here) × (p.here + p.size ≤ MEMORY_BYTES) × (takes_effect p ≡ false → p.size ≡ 0)

record Room (before : List Placed) : Type 0 where
  low : IMAGE_START ≤ address before
  high : address before ≤ MEMORY_BYTES
  lines : All IsWithinMemory before

room-by : (before : List Placed) (p : Placed) (b : Bool) → takes_effect p ≡ b → Stands before p → Room before → Room (p ∷ before)
room-by before p true e s r =
    let f = s.fits e in
    let low = r.low in
    record {
      low = rw (address-cons p before, e) (omega (arith, f.after, low));
      high = rw (address-cons p before, e) f.high;
      lines = All-cons IsWithinMemory p before (rw s.here low, rw s.here (omega (arith, f.after, f.high)), s.none) r.lines;
    }
room-by before p false e s r =
    let size = s.none e in
    let low = r.low in
    let high = r.high in
    record {
      low = rw (address-cons p before, e) (omega arith);
      high = rw (address-cons p before, e, size) (omega arith);
      lines = All-cons IsWithinMemory p before (rw s.here low, rw (s.here, size) (omega arith), s.none) r.lines;
    }

after-by : (before : List Placed) (p : Placed) (b : Bool) → takes_effect p ≡ b → Stands before p → p.here + p.size ≤ address (p ∷ before)
after-by before p true e s = rw (address-cons p before, e, s.here) (s.fits e).after
after-by before p false e s = rw (address-cons p before, e, s.none e, s.here) (omega arith)

-- the lines after a line have addresses past its end
pub passes : (before : List Placed) (line : Reading) → (place before line).here + (place before line).size ≤ address (place before line ∷ before)
passes before line = after-by before (place before line) (takes_effect (place before line)) refl (stands before line)

no_lines : Room []
unfolding address
no_lines = record { low = omega arith; high = omega arith; lines = All-nil IsWithinMemory }

room : (lines : List Reading) → Room (placed lines)
room lines = placed-keeps Room (λ before line. room-by before (place before line) (takes_effect (place before line)) refl (stands before line)) no_lines lines

pub end-low : (lines : List Reading) → IMAGE_START ≤ address (placed lines)
end-low lines = (room lines).low

pub end-high : (lines : List Reading) → address (placed lines) ≤ MEMORY_BYTES
end-high lines = (room lines).high

pub within-memory : (lines : List Reading) (i : ℕ) (d : Placed) → i < length (reverse (placed lines)) → IsWithinMemory (get_or (reverse (placed lines)) i d)
within-memory lines i d h = All-permutation IsWithinMemory (placed lines) (reverse (placed lines)) (IsPermutation-reverse (placed lines)) (room lines).lines i d h

-- The first lines, which an edit doesn't change, and the facts about them before and after the edit.

-- the facts stored about the first lines show that they are steady
pub steady-readings : (keys : List Name) (lines : List KeptLine) (first : ℕ) → AreInfos keys lines → first ≤ length lines → AreSteady lines first → AllSteady (take first (readings_in lines))
steady-readings keys lines first infos h steady =
    subst (All (λ (line : Reading). is_steady (body_of line) ≡ true)) (sym (take-map reading_in first lines))
    (All-map (λ (line : Reading). is_steady (body_of line) ≡ true) reading_in (take first lines) (λ place other at.
    (let below : place < first = omega (arith, at, length-take-le first lines h) in
    ap (λ (x : KeptLine). is_steady (body_of (reading_in x))) (get_or-take first lines place other below)
    ∙ sym (infos place other (omega (arith, below, h))).steady
    ∙ steady place other below)))

-- one of the first lines
pub steady-at : (lines : List Reading) (first n : ℕ) (line : Reading) → AllSteady (take first lines) → n < first → slice_get lines n ≡ Some line → is_steady (body_of line) ≡ true
steady-at lines first n line steady below there =
    let inside : n < length lines = slice_get_within lines n line there in
    ap (λ (l : Reading). is_steady (body_of l)) (sym (get_or_from_slice_get lines n line line there) ∙ sym (get_or-take first lines n line below))
    ∙ steady n line (omega (arith, length-take first lines))

-- the first lines stay the same and are steady
pub record Begun (lines : List KeptLine) (edit : LineEdit) (first : ℕ) : Type 0 where
  pub long : first ≤ length (readings_in lines)
  pub within : first ≤ length (lines_after lines edit)
  pub same : take first (readings_in lines) ≡ take first (readings_in (lines_after lines edit))
  pub stay : AreSteady (lines_after lines edit) first
  pub steady : AllSteady (take first (readings_in (lines_after lines edit)))

pub begun : (keys : List Name) (lines : List KeptLine) (edit : LineEdit) (first : ℕ) → IsPlaceWithin (length lines) edit → AreInfos keys (lines_after lines edit) → first ≤ first_changed edit → AreSteady lines first
    → Begun lines edit first
begun keys lines edit first where_is infos h steady =
    let after : List KeptLine = lines_after lines edit in
    let e : Edited lines after edit (λ y. Unit {0}) = edited-lines lines edit where_is in
    let fits = first-within (length lines) edit where_is in
    let inside : first ≤ length after = omega (arith, h, fits.1, e.many) in
    let front : take first lines ≡ take first after = shorter first (first_changed edit) lines after h e.front in
    let stays : AreSteady after first = λ place other below. (
    let s = steady place other below in
    let a = get_or-take first lines place other below in
    let b = get_or-take first after place other below in
    cc) in
    record {
      long = omega (arith, h, fits.0, length-map lines reading_in);
      within = inside;
      same = take-map reading_in first lines ∙ ap readings_in front ∙ sym (take-map reading_in first after);
      stay = stays;
      steady = steady-readings keys after first infos inside stays;
    }

-- the first lines are placed as before
pub same-placed : (was now : List Reading) (first n : ℕ) → take first was ≡ take first now → first ≤ length was → first ≤ length now → n < first
    → slice_get (reverse (placed was)) n ≡ slice_get (reverse (placed now)) n
same-placed was now first n same was_long now_long below =
    same-front (reverse (placed was)) (reverse (placed now)) first n (first-placed was first was_long ∙ ap (λ ls. reverse (placed ls)) same ∙ sym (first-placed now first now_long)) below

-- the symbols that remain after an edit
pub begun-symbols : (was now : List Reading) (first : ℕ) → first ≤ length was → take first was ≡ take first now → (old left : List (Name × Symbol)) → old ≡ names_of_lines was
    → ((early later : List (Name × Symbol)) → old ≡ early ++ later → AreUpTo first early → AreOver first later → left ≡ early) → left ≡ symbols (placed (take first now))
begun-symbols was now first long same old left names cut =
    let split : NamesSplit was first = names-split was first long in
    cut (symbols (placed (take first was))) split.later (names ∙ split.is) split.early split.late ∙ ap (λ ls. symbols (placed ls)) same
