-- Lists of lines, the facts about them, and the effect of one more line.
use Rattle.std.proofs.Common.{◌≡◌, ◌+◌, List, [], ◌∷◌, ◌++◌, length, reverse, fold, refl, ap, ◌∙◌, arith, option_map, ℕ, suc, Bool, true, false, cond, ◌&&◌, ◌||◌, take, Option, Some, None, option_to_list, filter_map, unsigned_abs, if◌then◌else◌}
use Rattle.std.proofs.lemmas.Bool.{and_right}
use Rattle.std.specs.List.{cons_option}
use Rattle.std.proofs.lemmas.List.{append-nil, length-reverse}
use Rattle.chip_lang.specs.Line.{Reading, Body, align}
use Rattle.chip_asm.specs.Layout.{Placed, first_of, is_end_body, body_of, takes_effect, is_origin, is_align_body, has_ended, symbol_of, condition_of, value_at, value_or_zero, full_size}
use Rattle.chip_asm.specs.computed.Walk.{place, placed, address, is_aligning, symbols, is_active, first_fault, enclosing}
use Rattle.chip_asm.proofs.OpenBlocks.{enclosing-open, IsNumbered}
use Rattle.std.proofs.lemmas.List.Sums.{sum_by-cons}
use Rattle.std.proofs.lemmas.List.Elements.{filter_map-append}
use Rattle.chip_asm.specs.inner.Placements.{next_aligning}
use Rattle.chip_asm.proofs.BlockSteps.{reverse-cons}

-- Lists of lines, and the facts about them.

abbrev pub onto : List Placed → Reading → List Placed
onto before line = place before line ∷ before

-- the parts of a placed line, given the line itself
pub record Parts (before : List Placed) (line : Reading) : Type 0 where
  pub number : (place before line).number ≡ length before + 1
  pub block : (place before line).block ≡ option_map (λ o. o.number) (first_of (enclosing before))
  pub condition : (place before line).condition ≡ condition_of (symbols before) (body_of line)
  pub active : (place before line).active ≡ is_active before (body_of line)
  pub here : (place before line).here ≡ address before
  pub value : (place before line).value ≡ value_or_zero (value_at (symbols before) (body_of line))
  pub fault : (place before line).fault ≡ (if (place before line).active then first_fault before line else None)
  pub size : (place before line).size ≡ (if takes_effect (place before line) then full_size (is_aligning before) (place before line).here (body_of line) (place before line).value else 0)
  pub line_is : (place before line).line ≡ line

pub parts : (before : List Placed) (line : Reading) → Parts before line
unfolding place
parts before line = record { number = refl; block = refl; condition = refl; active = refl; here = refl; value = refl; fault = refl; size = refl; line_is = refl }

pub line-at : (before : List Placed) (line : Reading) → (place before line).line ≡ line
unfolding place
line-at before line = refl

pub fold-append : (before : List Placed) (xs ys : List Reading) → fold onto before (xs ++ ys) ≡ fold onto (fold onto before xs) ys
fold-append before [] ys = refl
fold-append before (x ∷ xs) ys = fold-append (onto before x) xs ys

pub placed-push : (lines : List Reading) (line : Reading) → placed (lines ++ line ∷ []) ≡ place (placed lines) line ∷ placed lines
unfolding placed
placed-push lines line = fold-append [] lines (line ∷ [])

pub numbered-place : (before : List Placed) (line : Reading) → IsNumbered before → IsNumbered (place before line ∷ before)
unfolding place
numbered-place before line n = (refl, ap (λ os. option_map (λ (o : Placed). o.number) (first_of os)) (enclosing-open before), n)

-- a fact that holds for no lines, and for one more line if it holds for the lines before
fold-keeps : (P : List Placed → Type 0) → ((before : List Placed) (line : Reading) → P before → P (onto before line)) → (before : List Placed) (lines : List Reading) → P before → P (fold onto before lines)
fold-keeps P step before [] h = h
fold-keeps P step before (line ∷ lines) h = fold-keeps P step (onto before line) lines (step before line h)

pub placed-keeps : (P : List Placed → Type 0) → ((before : List Placed) (line : Reading) → P before → P (onto before line)) → P [] → (lines : List Reading) → P (placed lines)
unfolding placed
placed-keeps P step none lines = fold-keeps P step [] lines none

pub numbered : (lines : List Reading) → IsNumbered (placed lines)
numbered lines = placed-keeps IsNumbered numbered-place tt lines

pub numbered-next : (lines : List Reading) (line : Reading) → IsNumbered (place (placed lines) line ∷ placed lines)
numbered-next lines line = numbered-place (placed lines) line (numbered lines)

length-fold : (before : List Placed) (lines : List Reading) → length (fold onto before lines) ≡ length before + length lines
length-fold before [] = omega arith
length-fold before (line ∷ lines) = omega (arith, length-fold (onto before line) lines)

pub length-placed : (lines : List Reading) → length (placed lines) ≡ length lines
unfolding placed
length-placed lines = omega (arith, length-fold [] lines)

pub length-numbered : (lines : List Reading) → length (reverse (placed lines)) ≡ length lines
length-numbered lines = length-reverse (placed lines) ∙ length-placed lines

-- The effect of one more line on the address, the alignment, the END, the names and the blocks.

pub take_one_more : {X : Type 0} (n : ℕ) (x : X) (xs : List X) → take (1 + n) (x ∷ xs) ≡ x ∷ take n xs
take_one_more n x xs = let e : 1 + n ≡ suc n = omega arith in rw e refl

address_by : (p : Placed) (before : List Placed) (b : Bool) → is_origin p ≡ b → address (p ∷ before) ≡ cond b (unsigned_abs p.value) (address before + p.size)
unfolding address
address_by p before true e = rw e (let k : unsigned_abs p.value + 0 ≡ unsigned_abs p.value = omega arith in k)
address_by p before false e =
    rw (e, take_one_more, sum_by-cons (λ (q : Placed). q.size)) (omega arith)

pub address-cons : (p : Placed) (before : List Placed) → address (p ∷ before) ≡ cond (is_origin p) (unsigned_abs p.value) (address before + p.size)
address-cons p before = address_by p before (is_origin p) refl

pub has_ended-cons : (p : Placed) (before : List Placed) → has_ended (p ∷ before) ≡ ((p.active && is_end_body (body_of p.line)) || has_ended before)
unfolding has_ended
has_ended-cons p before = refl

pub cons-option : {X : Type 0} (o : Option X) (xs : List X) → cons_option o xs ≡ option_to_list o ++ xs
cons-option None xs = refl
cons-option (Some x) xs = refl

pub symbols-cons : (p : Placed) (before : List Placed) → symbols (p ∷ before) ≡ symbols before ++ option_to_list (symbol_of p)
unfolding symbols
symbols-cons p before =
    ap (filter_map symbol_of) (reverse-cons p before) ∙ filter_map-append symbol_of (reverse before) (p ∷ []) ∙ ap (λ l. symbols before ++ l) (cons-option (symbol_of p) [] ∙ append-nil (option_to_list (symbol_of p)))

not_align : (p : Placed) (b : Body) (before : List Placed) → body_of p.line ≡ b → is_align_body b ≡ false → is_aligning (p ∷ before) ≡ is_aligning before
unfolding is_aligning
not_align p b before e h = rw (e, h, and_right (takes_effect p) false refl) refl

aligning_by : (p : Placed) (before : List Placed) (b : Body) (a : Bool) → body_of p.line ≡ b → takes_effect p ≡ a → is_aligning (p ∷ before) ≡ next_aligning a (is_aligning before) b
unfolding is_aligning
aligning_by p before (align true) true e h = rw (e, h, e) refl
aligning_by p before (align false) true e h = rw (e, h, e) refl
aligning_by p before (align on) false e h = rw (e, h) refl
aligning_by p before _ a e h = not_align p _ before e refl

pub aligning-cons : (p : Placed) (before : List Placed) → is_aligning (p ∷ before) ≡ next_aligning (takes_effect p) (is_aligning before) (body_of p.line)
aligning-cons p before = aligning_by p before (body_of p.line) (takes_effect p) refl refl
