-- The open blocks, line by line, and their numbers.
use Rattle.std.proofs.Common.{◌≡◌, ℕ, suc, zero, ◌+◌, ◌≤◌, Bool, true, false, cond, ◌&&◌, nat_le, leb, List, [], ◌∷◌, map, drop, count_by, filter, refl, ap, sym, ◌∙◌, arith, leb-true, ◌<◌, ◌||◌, eqb, length, subst, Some, option_map, ne_eqb, eq-eqb}
use Rattle.std.proofs.lemmas.Bool.Decides.{nat_tests}
use Rattle.std.proofs.lemmas.List.Sums.{sum_by-cons}
use Rattle.std.proofs.lemmas.Bool.{and_parts, and_right, or_from}
use Rattle.chip_lang.specs.Line.{Body, endif, else_line, ifdef, ifund}
use Rattle.chip_asm.specs.Layout.{Placed, body_of, is_if_body, is_endif_body, is_if, is_endif, is_else, is_else_body, has_else, is_number, first_of}
use Rattle.chip_asm.specs.computed.Walk.{with_between, closes_no_more, enclosing}
use Rattle.chip_asm.specs.inner.Placements.{block_of}
use Rattle.chip_asm.specs.inner.Blocks.{moved, turned, turn_first, close_first}

-- The open blocks, line by line: an IF opens a block, and an ENDIF closes the last one.

-- the rest of a list after its first element
abbrev pub rest_of : {X : Type 0} → List X → List X
rest_of [] = []
rest_of (x ∷ xs) = xs

-- the open blocks, the last one first
abbrev pub open_blocks : List Placed → List Placed
open_blocks [] = []
open_blocks (p ∷ before) = cond (is_if p) (p ∷ open_blocks before) (cond (is_endif p) (rest_of (open_blocks before)) (open_blocks before))

-- the IF lines for which the lines between pass the test
abbrev openers : (List Placed → Bool) → List Placed → List Placed
openers test before = map (λ (s : List Placed × Placed). s.1) (filter (λ (s : List Placed × Placed). is_if s.1 && test s.0) (with_between before))

-- there are at least this many more IF lines than ENDIF lines, and no run closes more blocks than it opens
abbrev surplus : ℕ → List Placed → Bool
surplus d between = nat_le (count_by is_endif between + d) (count_by is_if between) && closes_no_more between

shift : (f : List Placed × Placed → Bool) (p : Placed) (xs : List (List Placed × Placed)) → map (λ (s : List Placed × Placed). s.1) (filter f (map (λ (s : List Placed × Placed). (p ∷ s.0, s.1)) xs)) ≡ map (λ (s : List Placed × Placed). s.1) (filter (λ (s : List Placed × Placed). f (p ∷ s.0, s.1)) xs)
shift f p [] = refl
shift f p (x ∷ xs) =
    elim (f (p ∷ x.0, x.1)) as (λ b. map (λ (s : List Placed × Placed). s.1) (cond b ((p ∷ x.0, x.1) ∷ filter f (map (λ (s : List Placed × Placed). (p ∷ s.0, s.1)) xs)) (filter f (map (λ (s : List Placed × Placed). (p ∷ s.0, s.1)) xs))) ≡ map (λ (s : List Placed × Placed). s.1) (cond b (x ∷ filter (λ (s : List Placed × Placed). f (p ∷ s.0, s.1)) xs) (filter (λ (s : List Placed × Placed). f (p ∷ s.0, s.1)) xs)))
    [ true ↦ ap (λ l. x.1 ∷ l) (shift f p xs) | false ↦ shift f p xs ]

openers-cons : (test : List Placed → Bool) (p : Placed) (before : List Placed) → openers test (p ∷ before) ≡ cond (is_if p && test []) (p ∷ openers (λ b. test (p ∷ b)) before) (openers (λ b. test (p ∷ b)) before)
openers-cons test p before =
    elim (is_if p && test []) as (λ b. map (λ (s : List Placed × Placed). s.1) (cond b (([], p) ∷ filter (λ (s : List Placed × Placed). is_if s.1 && test s.0) (map (λ (s : List Placed × Placed). (p ∷ s.0, s.1)) (with_between before))) (filter (λ (s : List Placed × Placed). is_if s.1 && test s.0) (map (λ (s : List Placed × Placed). (p ∷ s.0, s.1)) (with_between before)))) ≡ cond b (p ∷ openers (λ b. test (p ∷ b)) before) (openers (λ b. test (p ∷ b)) before))
    [ true ↦ ap (λ l. p ∷ l) (shift (λ (s : List Placed × Placed). is_if s.1 && test s.0) p (with_between before)) | false ↦ shift (λ (s : List Placed × Placed). is_if s.1 && test s.0) p (with_between before) ]

same_filter : (f g : List Placed × Placed → Bool) → ((s : List Placed × Placed) → f s ≡ g s) → (xs : List (List Placed × Placed)) → filter f xs ≡ filter g xs
same_filter f g same [] = refl
same_filter f g same (x ∷ xs) = rw (same x, same_filter f g same xs) refl

openers-same : (t u : List Placed → Bool) → ((b : List Placed) → t b ≡ u b) → (before : List Placed) → openers t before ≡ openers u before
openers-same t u same before =
    ap (map (λ (s : List Placed × Placed). s.1)) (same_filter (λ (s : List Placed × Placed). is_if s.1 && t s.0) (λ (s : List Placed × Placed). is_if s.1 && u s.0) (λ s. ap (λ v. is_if s.1 && v) (same s.0)) (with_between before))

no_more : (b : List Placed) → closes_no_more b ≡ true → count_by is_endif b ≤ count_by is_if b
no_more [] h = omega arith
no_more (p ∷ b) h = leb-true _ _ (and_parts _ _ h).0

-- the tests on numbers for a line that closes c blocks and opens o
level : (c o e i d k : ℕ) (rest : Bool) → c + d ≡ o + k → (leb (c + e + d) (o + i) && (leb (c + e) (o + i) && rest)) ≡ (leb (e + k) i && rest)
level c o e i d k true same = grind (arith, nat_tests)
level c o e i d k false same = grind (arith, nat_tests)

-- a line that opens a block closes none
at_if : (e i : ℕ) (c : Bool) → (c ≡ true → e ≤ i) → (leb (0 + e + 0) (1 + i) && (leb (0 + e) (1 + i) && c)) ≡ (leb (e + 0) i && c)
at_if e i true h = let k : e ≤ i = h refl in grind (arith, nat_tests)
at_if e i false h = grind (arith, nat_tests)

if_not_endif : (b : Body) → is_if_body b ≡ true → is_endif_body b ≡ false
if_not_endif endif h = cc
if_not_endif _ h = refl

drop_none : (d : ℕ) → drop d (open_blocks []) ≡ []
drop_none zero = refl
drop_none (suc d) = refl

surplus-cons : (d : ℕ) (p : Placed) (b : List Placed) → surplus d (p ∷ b) ≡ (leb (cond (is_endif p) 1 0 + count_by is_endif b + d) (cond (is_if p) 1 0 + count_by is_if b) && (leb (cond (is_endif p) 1 0 + count_by is_endif b) (cond (is_if p) 1 0 + count_by is_if b) && closes_no_more b))
surplus-cons d p b = rw (sum_by-cons (λ x. cond (is_endif x) 1 0), sum_by-cons (λ x. cond (is_if x) 1 0)) refl

surplus-next : (d k : ℕ) (p : Placed) (b : List Placed) → cond (is_endif p) 1 0 + d ≡ cond (is_if p) 1 0 + k → surplus d (p ∷ b) ≡ surplus k b
surplus-next d k p b same = surplus-cons d p b ∙ level (cond (is_endif p) 1 0) (cond (is_if p) 1 0) (count_by is_endif b) (count_by is_if b) d k (closes_no_more b) same

surplus-if : (p : Placed) (b : List Placed) → is_if p ≡ true → is_endif p ≡ false → surplus 0 (p ∷ b) ≡ surplus 0 b
surplus-if p b h e = surplus-cons 0 p b ∙ (rw (h, e) (at_if (count_by is_endif b) (count_by is_if b) (closes_no_more b) (no_more b)))

surplus_none : (d : ℕ) → surplus (suc d) [] ≡ false
surplus_none d = grind (arith, nat_tests)

drop-rest : (d : ℕ) (xs : List Placed) → drop d (rest_of xs) ≡ drop (suc d) xs
drop-rest zero [] = refl
drop-rest (suc d) [] = refl
drop-rest d (x ∷ xs) = refl

by_kind : (d : ℕ) (p : Placed) (before : List Placed) (i e : Bool) → is_if p ≡ i → is_endif p ≡ e → ((k : ℕ) → openers (surplus k) before ≡ drop k (open_blocks before))
    → cond (i && surplus d []) (p ∷ openers (λ b. surplus d (p ∷ b)) before) (openers (λ b. surplus d (p ∷ b)) before)
    ≡ drop d (cond i (p ∷ open_blocks before) (cond e (rest_of (open_blocks before)) (open_blocks before)))
by_kind zero p before true e hi he h = ap (λ l. p ∷ l) (openers-same (λ b. surplus 0 (p ∷ b)) (surplus 0) (λ b. surplus-if p b hi (if_not_endif (body_of p.line) hi)) before ∙ h 0)
by_kind (suc d) p before true e hi he h = rw (surplus_none d) (openers-same (λ b. surplus (suc d) (p ∷ b)) (surplus d) (λ b. surplus-next (suc d) d p b (rw (hi, if_not_endif (body_of p.line) hi) (omega arith))) before ∙ h d)
by_kind d p before false true hi he h = openers-same (λ b. surplus d (p ∷ b)) (surplus (suc d)) (λ b. surplus-next d (suc d) p b (rw (hi, he) (omega arith))) before ∙ h (suc d) ∙ sym (drop-rest d (open_blocks before))
by_kind d p before false false hi he h = openers-same (λ b. surplus d (p ∷ b)) (surplus d) (λ b. surplus-next d d p b (rw (hi, he) refl)) before ∙ h d

openers-surplus : (d : ℕ) (before : List Placed) → openers (surplus d) before ≡ drop d (open_blocks before)
openers-surplus d [] = sym (drop_none d)
openers-surplus d (p ∷ before) = openers-cons (surplus d) p before ∙ by_kind d p before (is_if p) (is_endif p) refl refl (λ e. openers-surplus e before)

plain : (e i : ℕ) (c : Bool) → (c ≡ true → e ≤ i) → c ≡ (leb (e + 0) i && c)
plain e i true h = let k : e ≤ i = h refl in grind (arith, nat_tests)
plain e i false h = grind (arith, nat_tests)

no_surplus : (b : List Placed) → closes_no_more b ≡ surplus 0 b
no_surplus b = plain (count_by is_endif b) (count_by is_if b) (closes_no_more b) (no_more b)

-- the enclosing IF lines are the open blocks
pub enclosing-open : (before : List Placed) → enclosing before ≡ open_blocks before
unfolding enclosing
enclosing-open before = openers-same closes_no_more (surplus 0) no_surplus before ∙ openers-surplus 0 before

-- The numbers of the open blocks decrease, so an ELSE switches only one block.

-- the lines are numbered in order, and each line contains the number of its block
abbrev pub IsNumbered : List Placed → Type 0
IsNumbered [] = Unit {0}
IsNumbered (p ∷ before) =
    (p.number ≡ length before + 1) × (p.block ≡ option_map (λ o. o.number) (first_of (open_blocks before))) × IsNumbered before

abbrev Descends : ℕ → List Placed → Type 0
Descends n [] = Unit {0}
Descends n (o ∷ os) = (o.number < n) × Descends o.number os

weaker : (n m : ℕ) (os : List Placed) → Descends n os → n ≤ m → Descends m os
weaker n m [] d h = tt
weaker n m (o ∷ os) d h = let k : o.number < n = d.0 in (omega arith, d.1)

rest-descends : (n : ℕ) (os : List Placed) → Descends n os → Descends n (rest_of os)
rest-descends n [] d = tt
rest-descends n (o ∷ os) d = let k : o.number < n = d.0 in weaker o.number n os d.1 (omega arith)

open-by : (p : Placed) (before : List Placed) (i e : Bool) → p.number ≡ length before + 1 → Descends (length before + 1) (open_blocks before)
    → Descends (length (p ∷ before) + 1) (cond i (p ∷ open_blocks before) (cond e (rest_of (open_blocks before)) (open_blocks before)))
open-by p before true e h d = (omega arith, subst (λ (n : ℕ). Descends n (open_blocks before)) (sym h) d)
open-by p before false true h d = weaker (length before + 1) (length (p ∷ before) + 1) (rest_of (open_blocks before)) (rest-descends _ (open_blocks before) d) (omega arith)
open-by p before false false h d = weaker (length before + 1) (length (p ∷ before) + 1) (open_blocks before) d (omega arith)

open-descends : (before : List Placed) → IsNumbered before → Descends (length before + 1) (open_blocks before)
open-descends [] n = tt
open-descends (p ∷ before) n = open-by p before (is_if p) (is_endif p) n.0 (open-descends before n.2)

number_later : (os : List Placed) (k n : ℕ) → Descends k os → k ≤ n → is_number n (option_map (λ o. o.number) (first_of os)) ≡ false
number_later [] k n d h = refl
number_later (o ∷ os) k n d h = let below : o.number < k = d.0 in ne_eqb o.number n (λ e. omega arith)

-- no ELSE belongs to a later line
has_else-later : (before : List Placed) (q : Placed) → IsNumbered before → length before < q.number → has_else before q ≡ false
unfolding has_else
has_else-later [] q n h = refl
has_else-later (p ∷ before) q n h =
    let other : is_number q.number p.block ≡ false = rw n.1 (number_later (open_blocks before) (length before + 1) q.number (open-descends before n.2) (omega arith)) in
    let rest : has_else before q ≡ false = has_else-later before q n.2 (omega arith) in
    rw (other, rest) (or_from _ _ (and_right (is_else p) false refl) refl)

block-same : (p o : Placed) (before : List Placed) → is_else p ≡ false → block_of (p ∷ before) o ≡ block_of before o
unfolding has_else
block-same p o before e = rw e refl

blocks-same : (p : Placed) (before os : List Placed) → is_else p ≡ false → map (block_of (p ∷ before)) os ≡ map (block_of before) os
blocks-same p before [] e = refl
blocks-same p before (o ∷ os) e = rw (block-same p o before e, blocks-same p before os e) refl

has_else-other : (p x : Placed) (before : List Placed) (n : ℕ) → p.block ≡ Some n → x.number < n → has_else (p ∷ before) x ≡ has_else before x
unfolding has_else
has_else-other p x before n e h =
    let other : eqb n x.number ≡ false = ne_eqb n x.number (λ same. omega arith) in
    rw (e, other) (ap (λ b. b || has_else before x) (and_right (is_else p) false refl))

block-other : (p x : Placed) (before : List Placed) (n : ℕ) → p.block ≡ Some n → x.number < n → block_of (p ∷ before) x ≡ block_of before x
block-other p x before n e h = rw (has_else-other p x before n e h) refl

blocks-others : (p : Placed) (before os : List Placed) (n m : ℕ) → p.block ≡ Some n → m ≤ n → Descends m os → map (block_of (p ∷ before)) os ≡ map (block_of before) os
blocks-others p before [] n m e h d = refl
blocks-others p before (o ∷ os) n m e h d =
    let below : o.number < m = d.0 in
    rw (block-other p o before n e (omega arith), blocks-others p before os n o.number e (omega arith) d.1) refl

has_else-first : (p o : Placed) (before : List Placed) → is_else p ≡ true → p.block ≡ Some o.number → has_else (p ∷ before) o ≡ true
unfolding has_else
has_else-first p o before e h = rw (e, h, eq-eqb o.number o.number refl) refl

block-turned : (p o : Placed) (before : List Placed) (was : Bool) → is_else p ≡ true → p.block ≡ Some o.number → has_else before o ≡ was → block_of (p ∷ before) o ≡ turned (block_of before o)
block-turned p o before true e h w = rw (has_else-first p o before e h, w) refl
block-turned p o before false e h w = rw (has_else-first p o before e h, w) refl

blocks-turned : (p : Placed) (before os : List Placed) (k : ℕ) → is_else p ≡ true → p.block ≡ option_map (λ o. o.number) (first_of os) → Descends k os
    → map (block_of (p ∷ before)) os ≡ turn_first (map (block_of before) os)
blocks-turned p before [] k e h d = refl
blocks-turned p before (o ∷ os) k e h d =
    rw (block-turned p o before (has_else before o) e h refl, blocks-others p before os o.number o.number h (omega arith) d.1) refl

close-rest : (before os : List Placed) → map (block_of before) (rest_of os) ≡ close_first (map (block_of before) os)
close-rest before [] = refl
close-rest before (o ∷ os) = refl

opened-here : (p : Placed) (before : List Placed) → IsNumbered (p ∷ before) → is_else p ≡ false → block_of (p ∷ before) p ≡ record { number = p.number; active = p.active; holds = p.condition; has_else = false }
unfolding has_else
opened-here p before n e =
    let none : has_else before p ≡ false = has_else-later before p n.2 (omega (arith, n.0)) in
    rw (e, none) refl

moved-by : (p : Placed) (before : List Placed) (b : Body) → body_of p.line ≡ b → IsNumbered (p ∷ before)
    → map (block_of (p ∷ before)) (open_blocks (p ∷ before)) ≡ moved b (record { number = p.number; active = p.active; holds = p.condition; has_else = false }) (map (block_of before) (open_blocks before))
moved-by p before (ifdef name) e n =
    let i : is_if p ≡ true = ap is_if_body e in
    let l : is_else p ≡ false = ap is_else_body e in
    rw (i, opened-here p before n l, blocks-same p before (open_blocks before) l) refl
moved-by p before (ifund name) e n =
    let i : is_if p ≡ true = ap is_if_body e in
    let l : is_else p ≡ false = ap is_else_body e in
    rw (i, opened-here p before n l, blocks-same p before (open_blocks before) l) refl
moved-by p before else_line e n =
    let i : is_if p ≡ false = ap is_if_body e in
    let d : is_endif p ≡ false = ap is_endif_body e in
    rw (i, d) (blocks-turned p before (open_blocks before) (length before + 1) (ap is_else_body e) n.1 (open-descends before n.2))
moved-by p before endif e n =
    let i : is_if p ≡ false = ap is_if_body e in
    let d : is_endif p ≡ true = ap is_endif_body e in
    let l : is_else p ≡ false = ap is_else_body e in
    rw (i, d) (blocks-same p before (rest_of (open_blocks before)) l ∙ close-rest before (open_blocks before))
moved-by p before _ e n =
    let i : is_if p ≡ false = ap is_if_body e in
    let d : is_endif p ≡ false = ap is_endif_body e in
    let l : is_else p ≡ false = ap is_else_body e in
    rw (i, d) (blocks-same p before (open_blocks before) l)

-- the effect of a line on the blocks
pub blocks-cons : (p : Placed) (before : List Placed) → IsNumbered (p ∷ before)
    → map (block_of (p ∷ before)) (enclosing (p ∷ before)) ≡ moved (body_of p.line) (record { number = p.number; active = p.active; holds = p.condition; has_else = false }) (map (block_of before) (enclosing before))
blocks-cons p before n = rw (enclosing-open (p ∷ before), enclosing-open before) (moved-by p before (body_of p.line) refl n)
