-- Facts about lines by place and line by line.
use Rattle.std.proofs.Common.{◌≡◌, ℕ, zero, suc, ◌+◌, ◌-◌, ◌<◌, ◌≤◌, Bool, true, false, cond, not, ◌&&◌, ◌||◌, List, [], ◌∷◌, ◌++◌, map, reverse, length, take, drop, filter, find, take_while, sum_by, count_by, slice_get, refl, ap, sym, subst, ◌∙◌, arith, Option, Some, None, option_map, ◌⊎◌, inl, inr, leb-true, le-leb, ℤ, fold, append_assoc, is_none, unsigned_abs, Result, Ok, Err, le_antisymm, Decides, eqb, nat_eq, eq-eqb, eqb-true}
use Rattle.std.specs.List.{list_any, list_all, position_or_len}
use Rattle.std.proofs.lemmas.List.Folds.{Any-from_list_any, find_at, list_any-from_Any}
use Rattle.std.proofs.Math.Seq.{drop-append_seam, take-append_seam}
use Rattle.std.proofs.lemmas.Bool.{and_from, and_parts, cases_lt, false≢true, not-false, not-true, true_from_ne_false}
use Rattle.std.proofs.lemmas.List.{take-append-le, take_all, take-append-drop, length-reverse, reverse-append, get_or-reverse, get_or_append_left, append-nil, length-append, length-drop, take_more, length-take-le}
use Rattle.std.proofs.lemmas.List.Sorted.{IsPermutation-reverse, sum_by-IsPermutation, list_any-IsPermutation}
use Rattle.std.proofs.lemmas.List.Sums.{fails_before_first, passes_at_first}
use Rattle.std.proofs.lemmas.Option.{gets, get_or_from_slice_get, same_Some, slice_get_cases, slice_get_read, slice_get_within, slice_get-map}
use Rattle.chip_symbols.specs.Names.{is_redefinition}
use Rattle.chip_asm.specs.Layout.{Placed, is_if, is_endif, first_of, body_of, is_side_or_end, is_origin, is_align, is_align_off_body, has_else, has_ended, holds, is_negative_space, is_backwards, is_past_end, value_at, value_or_zero, full_size}
use Rattle.chip_asm.specs.computed.Walk.{with_between, closes_no_more, encloses, enclosing, place, placed, is_aligning, address, symbols, is_active, is_misplaced, first_fault, fault_of_value}
use Rattle.chip_asm.specs.Places.{Passes, IsLast, Encloses, sizes, IsFromLast, IsActive, fault_in_value, is_stray, first_pass_faults, IsPlaced, ArePlaced, IsUnclosed}
use Rattle.chip_asm.proofs.BlockSteps.{all-not, reverse-cons}
use Rattle.std.specs.Bool.{one_answer}
use Rattle.std.specs.Option.{option_map_or}
use Rattle.chip_lang.specs.declared.limits.TheConstants.{IMAGE_START}
use Rattle.chip_lang.specs.declared.fault.Fault.{Fault}
use Rattle.chip_lang.specs.declared.fault.Fault.TheVariants.{DefinedTwice, StrayBranch, OutOfRange, OrgBelowHere, PastMemory}
use Rattle.chip_lang.specs.Line.{Body, else_line, endif, Reading, bad, read, fault_if, first_that_holds as first_fault_of}
use Rattle.chip_asm.proofs.Placing.{onto}
use Rattle.chip_asm.specs.Program.{is_unclosed}

-- The last line that passes a test, the enclosing IF lines, and the lines before, by place: the
-- lists from the nearest line back agree with the relations.

-- the places of a list with one more element

pub at-end : {A : Type 0} (xs ys : List A) (x : A) → slice_get (xs ++ x ∷ ys) (length xs) ≡ Some x
at-end [] ys x = refl
at-end (z ∷ xs) ys x = at-end xs ys x

pub one-side : {A : Type 0} (xs : List A) (y : A) (k : ℕ) (x : A) → slice_get (xs ++ y ∷ []) k ≡ Some x → (slice_get xs k ≡ Some x) ⊎ ((k ≡ length xs) × (x ≡ y))
one-side xs y k x h = elim (cases_lt k (length xs)) [
  | inl less ↦ inl (grind (arith, gets, slice_get_cases, get_or_append_left))
  | inr past ↦
      (let at : k ≡ length xs = omega (arith, past, slice_get_within (xs ++ y ∷ []) k x h, length-append xs (y ∷ [])) in
      inr (at, same_Some x y (sym h ∙ ap (slice_get (xs ++ y ∷ [])) at ∙ at-end xs [] y)))
]

pub turned : {A : Type 0} (xs : List A) (k : ℕ) (x : A) → slice_get xs k ≡ Some x → slice_get (reverse xs) (length xs - 1 - k) ≡ Some x
turned xs k x h = grind (arith, gets, slice_get_cases, get_or-reverse, length-reverse)

pub turned-back : {A : Type 0} (xs : List A) (k : ℕ) (x : A) → slice_get (reverse xs) k ≡ Some x → slice_get xs (length xs - 1 - k) ≡ Some x
turned-back xs k x h = grind (arith, gets, slice_get_cases, get_or-reverse, length-reverse)

-- the first element of a list that passes a test

data First {A : Type 0} (test : A → Bool) (xs : List A) : Type 0 where
  first : (x : A) → slice_get xs (position_or_len test xs) ≡ Some x → test x ≡ true → find test xs ≡ Some x → First test xs
  missing : length xs ≤ position_or_len test xs → find test xs ≡ None → First test xs

find-first : {A : Type 0} (test : A → Bool) (xs : List A) → First test xs
find-first test xs = elim (slice_get_cases xs (position_or_len test xs)).1 [
  | inl s ↦ first s.0 s.2 (ap test (sym s.3) ∙ passes_at_first test xs s.0 s.1) (find_at test xs ∙ s.2)
  | inr s ↦ missing s.0 (find_at test xs ∙ s.1)
]

no-earlier : {A : Type 0} (test : A → Bool) (xs : List A) (k : ℕ) (x : A) → slice_get xs k ≡ Some x → test x ≡ true → position_or_len test xs ≤ k
no-earlier test xs k x there passes = elim (cases_lt k (position_or_len test xs)) [
  | inl less ↦ absurd (false≢true (sym (fails_before_first test xs k x less) ∙ ap test (get_or_from_slice_get xs k x x there) ∙ passes))
  | inr past ↦ past
]

-- the last line that passes a test

-- the last line that fits, and a fact about it; or a fact that holds if no line fits
data Decided (Fits Known : ℕ → Placed → Type 0) (Otherwise : Type 0) : Type 0 where
  last : (j : ℕ) (p : Placed) → IsLast Fits j p → Known j p → Decided Fits Known Otherwise
  never : ((j : ℕ) (p : Placed) → Fits j p → ⊥) → Otherwise → Decided Fits Known Otherwise

-- a place from the nearest line back
abbrev back : List Placed → ℕ → ℕ
back r k = length r - 1 - k

-- the two parts of a reversed list
halves : (r : List Placed) (k : ℕ) → k ≤ length r → (take (length r - k) (reverse r) ≡ reverse (drop k r)) × (drop (length r - k) (reverse r) ≡ reverse (take k r))
halves r k h =
    let parts : reverse r ≡ reverse (drop k r) ++ reverse (take k r) = ap reverse (sym (take-append-drop k r)) ∙ reverse-append (take k r) (drop k r) in
    let long : length r - k ≡ length (reverse (drop k r)) = omega (arith, length-reverse (drop k r), length-drop k r) in (
      ap (take (length r - k)) parts ∙ ap (λ n. take n (reverse (drop k r) ++ reverse (take k r))) long ∙ take-append_seam (reverse (drop k r)) (reverse (take k r)),
      ap (drop (length r - k)) parts ∙ ap (λ n. drop n (reverse (drop k r) ++ reverse (take k r))) long ∙ drop-append_seam (reverse (drop k r)) (reverse (take k r)),
    )

-- the lines after a place
behind : (r : List Placed) (k : ℕ) → k < length r → drop (back r k + 1) (reverse r) ≡ reverse (take k r)
behind r k h = let after : back r k + 1 ≡ length r - k = omega arith in ap (λ n. drop n (reverse r)) after ∙ (halves r k (omega arith)).1

sum-turned : (f : Placed → ℕ) (xs : List Placed) → sum_by f (reverse xs) ≡ sum_by f xs
sum-turned f xs = sum_by-IsPermutation f xs (reverse xs) (IsPermutation-reverse xs)

abbrev Search : (Placed → Bool) → List Placed → Type 0
Search test r =
    Decided (Passes test (reverse r)) (λ j p. (find test r ≡ Some p) × (sizes (take_while (λ q. not (test q)) r) ≡ sizes (drop (j + 1) (reverse r))))
    ((find test r ≡ None) × (sizes (take_while (λ q. not (test q)) r) ≡ sizes (reverse r)))

search-last : (test : Placed → Bool) (r : List Placed) → Search test r
search-last test r = by (find-first test r)
  where
    at : ℕ
    at = position_or_len test r

    no-later : (k : ℕ) (q : Placed) → Passes test (reverse r) k q → (at ≤ back r k) × (k < length r)
    no-later k q s = (no-earlier test r (back r k) q (turned-back r k q s.there) s.passes, omega (arith, slice_get_within (reverse r) k q s.there, length-reverse r))

    by : First test r → Search test r
    by (first p there passes found) =
        let inside : at < length r = slice_get_within r at p there in
        last (back r at) p
        (record { fits = record { there = turned r at p there; passes = passes }; latest = λ k q s. (let later = no-later k q s in omega (arith, later.0, later.1)) })
        (found, sym (sum-turned (λ q. q.size) (take at r)) ∙ ap sizes (sym (behind r at inside)))
    by (missing past none) =
        never (λ k q s. (let later = no-later k q s in omega (arith, later.0, later.1, past))) (none, ap sizes (take_all at r past) ∙ sym (sum-turned (λ q. q.size) r))

-- the IF lines that enclose the lines that follow

abbrev line_after : List Placed → Placed → List Placed × Placed
line_after between p = (between, p)

between-at : (r : List Placed) (k : ℕ) → slice_get (with_between r) k ≡ option_map (line_after (take k r)) (slice_get r k)
between-at [] k = refl
between-at (p ∷ r) zero = refl
between-at (p ∷ r) (suc k) = slice_get-map (λ (s : List Placed × Placed). (p ∷ s.0, s.1)) (with_between r) k ∙ ap (option_map (λ (s : List Placed × Placed). (p ∷ s.0, s.1))) (between-at r k) ∙ by (slice_get r k)
  where
    by : (o : Option Placed) → option_map (λ (s : List Placed × Placed). (p ∷ s.0, s.1)) (option_map (line_after (take k r)) o) ≡ option_map (line_after (take (suc k) (p ∷ r))) o
    by None = refl
    by (Some q) = refl

abbrev Never : List Placed → Type 0
Never xs = (n : ℕ) → count_by is_endif (take n xs) ≤ count_by is_if (take n xs)

drops-from : (b : List Placed) → closes_no_more b ≡ true → (k : ℕ) → count_by is_endif (drop k b) ≤ count_by is_if (drop k b)
drops-from [] h zero = omega arith
drops-from [] h (suc k) = omega arith
drops-from (p ∷ b) h zero = leb-true _ _ (and_parts _ _ h).0
drops-from (p ∷ b) h (suc k) = drops-from b (and_parts _ _ h).1 k

drops-to : (b : List Placed) → ((k : ℕ) → k ≤ length b → count_by is_endif (drop k b) ≤ count_by is_if (drop k b)) → closes_no_more b ≡ true
drops-to [] h = refl
drops-to (p ∷ b) h = rw (le-leb (count_by is_endif (p ∷ b)) (count_by is_if (p ∷ b)) (h 0 (omega arith)), drops-to b (λ k low. h (suc k) (omega arith))) refl

turned-count : (test : Placed → Bool) (b : List Placed) (n k : ℕ) → k ≤ length b → n ≡ length b - k → count_by test (take n (reverse b)) ≡ count_by test (drop k b)
turned-count test b n k low e = ap (λ m. count_by test (take m (reverse b))) e ∙ ap (count_by test) (halves b k low).0 ∙ sum-turned (λ x. cond (test x) 1 0) (drop k b)

never-from : (b : List Placed) → closes_no_more b ≡ true → Never (reverse b)
never-from b h n = elim (cases_lt n (length b)) [
  | inl less ↦ (let k : ℕ = length b - n in omega (arith, drops-from b h k, turned-count is_endif b n k (omega arith) (omega arith), turned-count is_if b n k (omega arith) (omega arith)))
  | inr past ↦ rw (take_all n (reverse b) (omega (arith, length-reverse b)), sum-turned (λ x. cond (is_endif x) 1 0), sum-turned (λ x. cond (is_if x) 1 0)) (drops-from b h 0)
]

never-to : (b : List Placed) → Never (reverse b) → closes_no_more b ≡ true
never-to b h =
    drops-to b (λ k low. (let n : ℕ = length b - k in omega (arith, h n, turned-count is_endif b n k low refl, turned-count is_if b n k low refl)))

-- an enclosing IF line with the lines after it, at its place from the nearest line back
to-between : (r : List Placed) (j : ℕ) (o : Placed) → Encloses (reverse r) j o
    → (slice_get (with_between r) (back r j) ≡ Some (take (back r j) r, o)) × (encloses (take (back r j) r, o) ≡ true)
to-between r j o e =
    let there : slice_get r (back r j) ≡ Some o = turned-back r j o e.there in
    let within : j < length (reverse r) = slice_get_within (reverse r) j o e.there in
    let long : length (reverse r) ≡ length r = length-reverse r in
    let again : j ≡ back r (back r j) = omega arith in
    let tail : drop (j + 1) (reverse r) ≡ reverse (take (back r j) r) = ap (λ n. drop (n + 1) (reverse r)) again ∙ behind r (back r j) (omega arith) in
    let open_still : closes_no_more (take (back r j) r) ≡ true = never-to (take (back r j) r) (subst Never tail e.stays_open) in
    (between-at r (back r j) ∙ ap (option_map (line_after (take (back r j) r))) there, rw (e.opens, open_still) refl)

from-between : (r : List Placed) (k : ℕ) (s : List Placed × Placed) → slice_get (with_between r) k ≡ Some s → encloses s ≡ true → (k < length r) × Encloses (reverse r) (back r k) s.1
from-between r k s h e = by (slice_get r k) refl (sym (between-at r k) ∙ h)
  where
    by : (o : Option Placed) → slice_get r k ≡ o → option_map (line_after (take k r)) o ≡ Some s → (k < length r) × Encloses (reverse r) (back r k) s.1
    by None there is = cc
    by (Some p) there is =
        let within : k < length r = slice_get_within r k p there in
        let pair : (take k r, p) ≡ s = cc in
        let opener : p ≡ s.1 = ap (λ (t : List Placed × Placed). t.1) pair in
        let between : take k r ≡ s.0 = ap (λ (t : List Placed × Placed). t.0) pair in
        let two = and_parts (is_if s.1) (closes_no_more s.0) e in
        let tail : reverse s.0 ≡ drop (back r k + 1) (reverse r) = ap reverse (sym between) ∙ sym (behind r k within) in
        let it : Encloses (reverse r) (back r k) s.1 = record { there = turned r k p there ∙ ap Some opener; opens = two.0; stays_open = subst Never tail (never-from s.0 two.1) } in
        (within, it)

-- the last enclosing line

abbrev openers_in : List (List Placed × Placed) → List Placed
openers_in xs = map (λ s. s.1) (filter encloses xs)

first-opener : (xs : List (List Placed × Placed)) → first_of (openers_in xs) ≡ option_map (λ s. s.1) (find encloses xs)
first-opener [] = refl
first-opener (x ∷ xs) =
    elim (encloses x) as (λ b. first_of (map (λ (s : List Placed × Placed). s.1) (cond b (x ∷ filter encloses xs) (filter encloses xs))) ≡ option_map (λ (s : List Placed × Placed). s.1) (cond b (Some x) (find encloses xs)))
    [ true ↦ refl | false ↦ first-opener xs ]

abbrev Opener : List Placed → Type 0
Opener r = Decided (Encloses (reverse r)) (λ j o. first_of (enclosing r) ≡ Some o) (first_of (enclosing r) ≡ None)

last-opener : (r : List Placed) → Opener r
unfolding enclosing
last-opener r = by (find-first encloses (with_between r))
  where
    at : ℕ
    at = position_or_len encloses (with_between r)

    no-later : (j : ℕ) (o : Placed) → Encloses (reverse r) j o → (at ≤ back r j) × (back r j < length (with_between r)) × (j < length r)
    no-later j o e =
        let two = to-between r j o e in
        (no-earlier encloses (with_between r) (back r j) _ two.0 two.1, slice_get_within (with_between r) (back r j) _ two.0, omega (arith, slice_get_within (reverse r) j o e.there, length-reverse r))

    by : First encloses (with_between r) → Opener r
    by (first s there e is) =
        let here = from-between r at s there e in
        last (back r at) s.1 (record { fits = here.1; latest = λ j o h. (let later = no-later j o h in omega (arith, later.0, later.2, here.0)) }) (first-opener (with_between r) ∙ ap (option_map (λ (t : List Placed × Placed). t.1)) is)
    by (missing past is) = never (λ j o h. (let later = no-later j o h in omega (arith, later.0, later.1, past))) (first-opener (with_between r) ∙ ap (option_map (λ (t : List Placed × Placed). t.1)) is)

-- whether some enclosing line passes a test, and whether all do

any-opener : (f : Placed → Bool) (xs : List (List Placed × Placed)) → list_any f (openers_in xs) ≡ list_any (λ s. encloses s && f s.1) xs
any-opener f [] = refl
any-opener f (x ∷ xs) =
    elim (encloses x) as (λ b. list_any f (map (λ (s : List Placed × Placed). s.1) (cond b (x ∷ filter encloses xs) (filter encloses xs))) ≡ ((b && f x.1) || list_any (λ (s : List Placed × Placed). encloses s && f s.1) xs))
    [ true ↦ ap (λ b. f x.1 || b) (any-opener f xs) | false ↦ any-opener f xs ]

data Enclosing (f : Placed → Bool) (r : List Placed) : Type 0 where
  one_encloses : (j : ℕ) (o : Placed) → Encloses (reverse r) j o → f o ≡ true → Enclosing f r

any-enclosing : (f : Placed → Bool) (r : List Placed) → list_any f (enclosing r) ≡ true → Enclosing f r
unfolding enclosing
any-enclosing f r h =
    let s = Any-from_list_any (λ (s : List Placed × Placed). encloses s && f s.1) (with_between r) (sym (any-opener f (with_between r)) ∙ h) in
    let both = and_parts (encloses s.1) (f s.1.1) s.4 in
    one_encloses (back r s.0) s.1.1 (from-between r s.0 s.1 (slice_get_read (with_between r) (length (with_between r)) s.0 s.1 refl s.2 (sym s.3)) both.0).1 both.1

enclosing-any : (f : Placed → Bool) (r : List Placed) (j : ℕ) (o : Placed) → Encloses (reverse r) j o → f o ≡ true → list_any f (enclosing r) ≡ true
unfolding enclosing
enclosing-any f r j o e g =
    let two = to-between r j o e in
    let s : List Placed × Placed = (take (back r j) r, o) in
    any-opener f (with_between r)
    ∙ list_any-from_Any (λ (t : List Placed × Placed). encloses t && f t.1) (with_between r)
    (back r j, s, slice_get_within (with_between r) (back r j) s two.0, get_or_from_slice_get (with_between r) (back r j) s s two.0, and_from _ _ two.1 g)

all-enclosing : (f : Placed → Bool) (r : List Placed) → list_all f (enclosing r) ≡ true → (j : ℕ) (o : Placed) → Encloses (reverse r) j o → f o ≡ true
all-enclosing f r h j o e = true_from_ne_false (f o) (λ fails.
    false≢true (sym (all-not f (enclosing r) ∙ ap not (enclosing-any (λ o. not (f o)) r j o e (ap not fails))) ∙ h))

pub enclosing-all : (f : Placed → Bool) (r : List Placed) → ((j : ℕ) (o : Placed) → Encloses (reverse r) j o → f o ≡ true) → list_all f (enclosing r) ≡ true
enclosing-all f r h = true_from_ne_false (list_all f (enclosing r)) (λ fails. by (any-enclosing (λ o. not (f o)) r (not-false _ (sym (all-not f (enclosing r)) ∙ fails))))
  where
    by : Enclosing (λ o. not (f o)) r → ⊥
    by (one_encloses j o e fails) = false≢true (sym (not-true (f o) fails) ∙ h j o e)

any-turned : (test : Placed → Bool) (r : List Placed) → list_any test (reverse r) ≡ list_any test r
any-turned test r = sym (list_any-IsPermutation test r (reverse r) (IsPermutation-reverse r))

-- The facts found line by line are the facts that hold by place, and no other facts hold.

-- the result for the last such line

one-of-last : {X : Type 0} {Fits Known : ℕ → Placed → Type 0} {Otherwise : Type 0} (gives : ℕ → Placed → X) (otherwise x y : X) → Decided Fits Known Otherwise → IsFromLast Fits gives otherwise x → IsFromLast Fits gives otherwise y → x ≡ y
one-of-last gives otherwise x y (last j p l k) a b = a.from_last j p l ∙ sym (b.from_last j p l)
one-of-last gives otherwise x y (never none k) a b = a.from_none none ∙ sym (b.from_none none)

abbrev HasOne : (ℕ → Placed → Type 0) → Type 0
HasOne Fits = (j : ℕ) (p q : Placed) → Fits j p → Fits j q → p ≡ q

from-decided : {X : Type 0} {Fits Known : ℕ → Placed → Type 0} {Otherwise : Type 0} (gives : ℕ → Placed → X) (otherwise x : X) → Decided Fits Known Otherwise → HasOne Fits
    → ((j : ℕ) (p : Placed) → Known j p → x ≡ gives j p) → (Otherwise → x ≡ otherwise) → IsFromLast Fits gives otherwise x
from-decided {Fits = Fits} gives otherwise x (last j p l k) one there nowhere = record {
  from_last = λ i q m.
      (let at : j ≡ i = le_antisymm (m.latest j p l.fits) (l.latest i q m.fits) in
      let same : p ≡ q = one i p q (subst (λ (n : ℕ). Fits n p) at l.fits) m.fits in
      there j p k ∙ ap (λ n. gives n p) at ∙ ap (gives i) same);
  from_none = λ none. absurd (none j p l.fits);
}
from-decided gives otherwise x (never none k) one there nowhere = record {
  from_last = λ j p l. absurd (none j p l.fits);
  from_none = λ any. nowhere k;
}

one-passes : (test : Placed → Bool) (before : List Placed) → HasOne (Passes test before)
one-passes test before j p q a b = same_Some p q (sym a.there ∙ b.there)

one-encloses : (before : List Placed) → HasOne (Encloses before)
one-encloses before j p q a b = same_Some p q (sym a.there ∙ b.there)

-- the address, the alignment and the block

abbrev after_org : List Placed → ℕ → Placed → ℕ
after_org before j org = unsigned_abs org.value + sizes (drop (j + 1) before)

abbrev is_on : ℕ → Placed → Bool
is_on j align = not (is_align_off_body (body_of align.line))

abbrev number_in : ℕ → Placed → Option ℕ
number_in j o = Some o.number

pub address-of : (r : List Placed) → IsFromLast (Passes is_origin (reverse r)) (after_org (reverse r)) (IMAGE_START + sizes (reverse r)) (address r)
unfolding address
address-of r =
    from-decided (after_org (reverse r)) (IMAGE_START + sizes (reverse r)) (address r) (search-last is_origin r) (one-passes is_origin (reverse r)) (λ j p k. rw (k.0, k.1) refl) (λ k. rw (k.0, k.1) refl)

aligning-of : (r : List Placed) → IsFromLast (Passes is_align (reverse r)) is_on true (is_aligning r)
unfolding is_aligning
aligning-of r = from-decided is_on true (is_aligning r) (search-last is_align r) (one-passes is_align (reverse r)) (λ j p k. rw k.0 refl) (λ k. rw k.0 refl)

abbrev block_in : List Placed → Option ℕ
block_in r = option_map (λ o. o.number) (first_of (enclosing r))

block-of : (r : List Placed) → IsFromLast (Encloses (reverse r)) number_in None (block_in r)
block-of r = from-decided number_in None (block_in r) (last-opener r) (one-encloses (reverse r)) (λ j o is. rw is refl) (λ is. rw is refl)

-- whether a line is active

pub ended-turned : (r : List Placed) → has_ended (reverse r) ≡ has_ended r
unfolding has_ended
ended-turned r = any-turned _ r

else-turned : (r : List Placed) (o : Placed) → has_else (reverse r) o ≡ has_else r o
unfolding has_else
else-turned r o = any-turned _ r

holds-turned : (r : List Placed) (o : Placed) → holds (reverse r) o ≡ holds r o
holds-turned r o = rw (else-turned r o) refl

abbrev side_active : List Placed → Bool
side_active r = option_map_or (λ o. o.active) (first_of (enclosing r)) true

abbrev reached : List Placed → Bool → Bool
reached r side = cond side (side_active r) (list_all (holds r) (enclosing r))

side-of : (r : List Placed) → IsFromLast (Encloses (reverse r)) (λ j o. o.active) true (side_active r)
side-of r = from-decided (λ j o. o.active) true (side_active r) (last-opener r) (one-encloses (reverse r)) (λ j o is. rw is refl) (λ is. rw is refl)

active-side : (r : List Placed) → ((j : ℕ) (o : Placed) → IsLast (Encloses (reverse r)) j o → o.active ≡ true) → side_active r ≡ true
active-side r h = by (last-opener r)
  where
    by : Opener r → side_active r ≡ true
    by (last j o l is) = rw is (h j o l)
    by (never none is) = rw is refl

active-from : (r : List Placed) (body : Body) (side : Bool) → is_side_or_end body ≡ side → (not (has_ended r) && reached r side) ≡ true → IsActive (reverse r) body
active-from r body side e h = by side e (and_parts (not (has_ended r)) (reached r side) h).0 (and_parts (not (has_ended r)) (reached r side) h).1
  where
    open_yet : not (has_ended r) ≡ true → has_ended (reverse r) ≡ false
    open_yet k = ended-turned r ∙ not-true (has_ended r) k

    by : (s : Bool) → is_side_or_end body ≡ s → not (has_ended r) ≡ true → reached r s ≡ true → IsActive (reverse r) body
    by true e k g = record { not_ended = open_yet k; side_or_end = λ is j o l. sym ((side-of r).from_last j o l) ∙ g; other = λ is. absurd (let never : true ≡ false = sym e ∙ is in cc) }
    by false e k g = record {
      not_ended = open_yet k;
      side_or_end = λ is. absurd (let never : false ≡ true = sym e ∙ is in cc);
      other = λ is j o n. holds-turned r o ∙ all-enclosing (holds r) r g j o n;
    }

active-to : (r : List Placed) (body : Body) (side : Bool) → is_side_or_end body ≡ side → IsActive (reverse r) body → (not (has_ended r) && reached r side) ≡ true
active-to r body true e l =
    let yet : has_ended r ≡ false = sym (ended-turned r) ∙ l.not_ended in
    rw (yet, active-side r (l.side_or_end e)) refl
active-to r body false e l =
    let yet : has_ended r ≡ false = sym (ended-turned r) ∙ l.not_ended in
    rw (yet, enclosing-all (holds r) r (λ j o n. sym (holds-turned r o) ∙ l.other e j o n)) refl

active-decides : (r : List Placed) (body : Body) → Decides (is_active r body) (IsActive (reverse r) body)
unfolding is_active
active-decides r body = (active-from r body (is_side_or_end body) refl, active-to r body (is_side_or_end body) refl)

-- the first fault

first-if : (b : Bool) (fault : Fault) (rest : List (Option Fault)) → first_fault_of (fault_if b fault ∷ rest) ≡ cond b (Some fault) (first_fault_of rest)
first-if true fault rest = refl
first-if false fault rest = refl

next-fault : (a b : Bool) (fault : Fault) (rest : List (Option Fault)) (later : Option Fault) → a ≡ b → first_fault_of rest ≡ later → first_fault_of (fault_if a fault ∷ rest) ≡ cond b (Some fault) later
next-fault a b fault rest later e g = first-if a fault rest ∙ ap (λ t. cond t (Some fault) (first_fault_of rest)) e ∙ ap (λ o. cond b (Some fault) o) g

stray-else : (r : List Placed) (o : Option Placed) → is_stray (reverse r) (option_map (λ p. p.number) o) else_line ≡ option_map_or (has_else r) o true
unfolding has_else
stray-else r None = refl
stray-else r (Some o) = any-turned _ r

stray-endif : (r : List Placed) (o : Option Placed) → is_stray (reverse r) (option_map (λ p. p.number) o) endif ≡ is_none o
stray-endif r None = refl
stray-endif r (Some o) = refl

stray-other : (r : List Placed) (o : Option Placed) (body : Body) → is_side_or_end body ≡ false → is_stray (reverse r) (option_map (λ p. p.number) o) body ≡ false
stray-other r None body h = h
stray-other r (Some o) else_line h = cc
stray-other r (Some o) _ h = refl

stray-same : (r : List Placed) (body : Body) → is_stray (reverse r) (block_in r) body ≡ is_misplaced r body
stray-same r else_line = stray-else r (first_of (enclosing r))
stray-same r endif = stray-endif r (first_of (enclosing r))
stray-same r _ = stray-other r (first_of (enclosing r)) _ refl

abbrev later_faults : Bool → ℕ → Body → ℤ → List (Option Fault)
later_faults aligning here body value =
    fault_if (is_negative_space body value) OutOfRange ∷ fault_if (is_backwards here body value) OrgBelowHere ∷ fault_if (is_past_end aligning here body value) PastMemory ∷ []

value-same : (aligning : Bool) (here : ℕ) (body : Body) (v : Result ℤ Fault) → first_fault_of (fault_in_value v ∷ later_faults aligning here body (value_or_zero v)) ≡ fault_of_value aligning here body v
unfolding fault_of_value
value-same aligning here body (Err fault) = refl
value-same aligning here body (Ok v) =
    let last : List (Option Fault) = fault_if (is_past_end aligning here body v) PastMemory ∷ [] in
    next-fault (is_negative_space body v) (is_negative_space body v) OutOfRange (fault_if (is_backwards here body v) OrgBelowHere ∷ last) _ refl
    (next-fault (is_backwards here body v) (is_backwards here body v) OrgBelowHere last _ refl (next-fault (is_past_end aligning here body v) (is_past_end aligning here body v) PastMemory [] None refl refl))

abbrev with_parts : ℕ → Reading → Option ℕ → Bool → Bool → ℕ → ℤ → Option Fault → ℕ → Placed
with_parts number line block condition active here value fault size =
    record { number = number; line = line; block = block; condition = condition; active = active; here = here; value = value; fault = fault; size = size }

-- the parts of a line that determine its fault
abbrev looked_for : List Placed → Bool → Reading → Option ℕ → ℕ → ℤ → List (Option Fault)
looked_for before aligning line block here value = first_pass_faults before aligning (with_parts 0 line block false false here value None 0)

fault-same : (r : List Placed) (line : Reading)
    → first_fault_of (looked_for (reverse r) (is_aligning r) line (block_in r) (address r) (value_or_zero (value_at (symbols r) (body_of line)))) ≡ first_fault r line
unfolding first_fault symbols
fault-same r (bad why) = refl
fault-same r (read label body) =
    let v : Result ℤ Fault = value_at (symbols r) body in
    let rest : List (Option Fault) = fault_in_value v ∷ later_faults (is_aligning r) (address r) body (value_or_zero v) in
    next-fault (is_stray (reverse r) (block_in r) body) (is_misplaced r body) StrayBranch (fault_if (is_redefinition (symbols r) label) DefinedTwice ∷ rest) _ (stray-same r body)
    (next-fault (is_redefinition (symbols r) label) (is_redefinition (symbols r) label) DefinedTwice rest _ refl (value-same (is_aligning r) (address r) body v))

-- a line after the lines before it

is-placed : (r : List Placed) (line : Reading) → IsPlaced (reverse r) line (place r line)
unfolding place symbols
is-placed r line = record {
  number = ap (λ n. n + 1) (sym (length-reverse r));
  is_line = refl;
  block = block-of r;
  condition = refl;
  active = active-decides r (body_of line);
  here = address-of r;
  value = refl;
  aligning = is_aligning r;
  is_aligning = aligning-of r;
  fault = ap (λ fault. cond (is_active r (body_of line)) fault None) (sym (fault-same r line));
  size = refl;
}

only-this : (r : List Placed) (line : Reading) (p : Placed) → IsPlaced (reverse r) line p → p ≡ place r line
unfolding place symbols
only-this r line p h =
    let body : Body = body_of line in
    let aligned : h.aligning ≡ is_aligning r = one-of-last is_on true h.aligning (is_aligning r) (search-last is_align r) h.is_aligning (aligning-of r) in
    let block : p.block ≡ block_in r = one-of-last number_in None p.block (block_in r) (last-opener r) h.block (block-of r) in
    let here : p.here ≡ address r = one-of-last (after_org (reverse r)) (IMAGE_START + sizes (reverse r)) p.here (address r) (search-last is_origin r) h.here (address-of r) in
    let active : p.active ≡ is_active r body = one_answer p.active (is_active r body) h.active (active-decides r body) in
    let fault : p.fault ≡ cond (is_active r body) (first_fault r line) None
    = h.fault ∙ (λ i. cond (active i) (first_fault_of (looked_for (reverse r) (aligned i) (h.is_line i) (block i) (here i) (h.value i))) None) ∙ ap (λ fault. cond (is_active r body) fault None) (fault-same r line) in
    let number : p.number ≡ length r + 1 = h.number ∙ ap (λ n. n + 1) (length-reverse r) in
    let size : p.size ≡ cond (is_active r body && is_none (cond (is_active r body) (first_fault r line) None)) (full_size (is_aligning r) (address r) body (value_or_zero (value_at (symbols r) body))) 0
    = h.size ∙ (λ i. cond (active i && is_none (fault i)) (full_size (aligned i) (here i) body (h.value i)) 0) in
    λ i. with_parts (number i) (h.is_line i) (block i) (h.condition i) (active i) (here i) (h.value i) (fault i) (size i)

-- all lines

one-more : (done : List Reading) (r : List Placed) (line : Reading) → ArePlaced done (reverse r) → ArePlaced (done ++ line ∷ []) (reverse r ++ place r line ∷ [])
one-more done r line a = record {
  count = length-append (reverse r) (place r line ∷ []) ∙ ap (λ n. n + 1) a.count ∙ sym (length-append done (line ∷ []));
  each = λ i l p there holds. by i l p (one-side done line i l there) (one-side (reverse r) (place r line) i p holds);
}
  where
    by : (i : ℕ) (l : Reading) (p : Placed) → (slice_get done i ≡ Some l) ⊎ ((i ≡ length done) × (l ≡ line)) → (slice_get (reverse r) i ≡ Some p) ⊎ ((i ≡ length (reverse r)) × (p ≡ place r line))
        → IsPlaced (take i (reverse r ++ place r line ∷ [])) l p
    by i l p (inl e) (inl f) =
        let inside : i < length (reverse r) = slice_get_within (reverse r) i p f in
        rw (take-append-le i (reverse r) (place r line ∷ []) (omega arith)) (a.each i l p e f)
    by i l p (inr e) (inr f) =
        let front : take i (reverse r ++ place r line ∷ []) ≡ reverse r = ap (λ n. take n (reverse r ++ place r line ∷ [])) f.0 ∙ take-append_seam (reverse r) (place r line ∷ []) in
        rw (front, e.1, f.1) (is-placed r line)
    by i l p (inl e) (inr f) = absurd (let inside = slice_get_within done i l e in omega (arith, f.0, a.count))
    by i l p (inr e) (inl f) = absurd (let inside = slice_get_within (reverse r) i p f in omega (arith, e.0, a.count))

agree-fold : (done : List Reading) (r : List Placed) (lines : List Reading) → ArePlaced done (reverse r) → ArePlaced (done ++ lines) (reverse (fold onto r lines))
agree-fold done r [] a = rw (append-nil done) a
agree-fold done r (line ∷ lines) a =
    let next : ArePlaced (done ++ line ∷ []) (reverse (place r line ∷ r)) = rw (reverse-cons (place r line) r) (one-more done r line a) in
    subst (λ (ls : List Reading). ArePlaced ls (reverse (fold onto (onto r line) lines))) (append_assoc done (line ∷ []) lines) (agree-fold (done ++ line ∷ []) (onto r line) lines next)

none-placed : ArePlaced [] []
none-placed = record { count = refl; each = λ i line p there holds. cc }

-- the facts found line by line hold by place
pub agree : (lines : List Reading) → ArePlaced lines (reverse (placed lines))
unfolding placed
agree lines = agree-fold [] [] lines none-placed

only-fold : (done lines : List Reading) (r all : List Placed) → ArePlaced (done ++ lines) all → length (reverse r) ≡ length done → take (length done) all ≡ reverse r → all ≡ reverse (fold onto r lines)
only-fold done [] r all a n e = sym (take_all (length done) all (omega (arith, a.count, ap length (append-nil done)))) ∙ e
only-fold done (line ∷ lines) r all a n e = by (slice_get all (length done)) refl (only-fold (done ++ line ∷ []) lines (onto r line) all)
  where
    whole : length all ≡ length done + length (line ∷ lines)
    whole = a.count ∙ length-append done (line ∷ lines)

    by : (o : Option Placed) → slice_get all (length done) ≡ o
        → (ArePlaced ((done ++ line ∷ []) ++ lines) all → length (reverse (onto r line)) ≡ length (done ++ line ∷ []) → take (length (done ++ line ∷ [])) all ≡ reverse (onto r line) → all ≡ reverse (fold onto (onto r line) lines))
        → all ≡ reverse (fold onto (onto r line) lines)
    by None there rest = absurd (missing all (length done) there (omega (arith, whole)))
      where
        missing : (xs : List Placed) (k : ℕ) → slice_get xs k ≡ None → k < length xs → ⊥
        missing [] k e h = omega arith
        missing (x ∷ xs) zero e h = cc
        missing (x ∷ xs) (suc k) e h = missing xs k e (omega arith)
    by (Some p) there rest =
        let inside : length done < length all = slice_get_within all (length done) p there in
        let this : IsPlaced (take (length done) all) line p = a.each (length done) line p (at-end done lines line) there in
        let is : p ≡ place r line = only-this r line p (rw e at this) in
        let front : take (length done + 1) all ≡ reverse (place r line ∷ r)
        = take_more all (length done) p inside ∙ ap (λ q. take (length done) all ++ q ∷ []) (get_or_from_slice_get all (length done) p p there ∙ is) ∙ ap (λ l. l ++ place r line ∷ []) e ∙ sym (reverse-cons (place r line) r) in
        let long : length (done ++ line ∷ []) ≡ length done + 1 = length-append done (line ∷ []) in
        rest (subst (λ (ls : List Reading). ArePlaced ls all) (sym (append_assoc done (line ∷ []) lines)) a)
        (ap length (reverse-cons (place r line) r) ∙ length-append (reverse r) (place r line ∷ []) ∙ ap (λ m. m + 1) n ∙ sym long)
        (ap (λ m. take m all) long ∙ front)

-- no other facts hold by place
pub only : (lines : List Reading) (all : List Placed) → ArePlaced lines all → all ≡ reverse (placed lines)
unfolding placed
only lines all a = only-fold [] lines [] all a refl refl

-- An IF without ENDIF, by place.

pub past-end : {X : Type 0} (xs : List X) (i : ℕ) → slice_get xs i ≡ None → length xs ≤ i
past-end [] i e = omega arith
past-end (x ∷ xs) zero e = cc
past-end (x ∷ xs) (suc i) e = (let rest = past-end xs i e in omega arith)

-- the line at a place has the next number
pub number-at : (lines : List Reading) (i : ℕ) (p : Placed) → slice_get (reverse (placed lines)) i ≡ Some p → p.number ≡ i + 1
number-at lines i p there = by (slice_get lines i) refl (agree lines)
  where
    by : (o : Option Reading) → slice_get lines i ≡ o → ArePlaced lines (reverse (placed lines)) → p.number ≡ i + 1
    by None e a = absurd (let inside = slice_get_within (reverse (placed lines)) i p there in omega (arith, inside, past-end lines i e, a.count))
    by (Some line) e a =
        let inside : i < length (reverse (placed lines)) = slice_get_within (reverse (placed lines)) i p there in
        let this = a.each i line p e there in
        this.number ∙ ap (λ n. n + 1) (length-take-le i (reverse (placed lines)) (omega arith))

abbrev has_number : ℕ → Placed → Bool
has_number n o = eqb o.number n

-- an enclosing line with the number of a place is the line there
opener-at : (lines : List Reading) (i : ℕ) (p : Placed) (f : Placed → Bool) → slice_get (reverse (placed lines)) i ≡ Some p → ((o : Placed) → f o ≡ true → o.number ≡ i + 1) → list_any f (enclosing (placed lines)) ≡ true
    → Encloses (reverse (placed lines)) i p × (f p ≡ true)
opener-at lines i p f there numbered h = by (any-enclosing f (placed lines) h)
  where
    by : Enclosing f (placed lines) → Encloses (reverse (placed lines)) i p × (f p ≡ true)
    by (one_encloses j o e g) =
        let at : j ≡ i = omega (arith, numbered o g, number-at lines j o e.there) in
        let moved : Encloses (reverse (placed lines)) i o = subst (λ (n : ℕ). Encloses (reverse (placed lines)) n o) at e in
        let same : o ≡ p = same_Some o p (sym moved.there ∙ there) in
        (subst (Encloses (reverse (placed lines)) i) same moved, ap f (sym same) ∙ g)

unclosed-from : (lines : List Reading) (i : ℕ) (p : Placed) → slice_get (reverse (placed lines)) i ≡ Some p → is_unclosed (placed lines) p ≡ true → IsUnclosed (reverse (placed lines)) i p
unclosed-from lines i p there h =
    let two = and_parts (is_if p && p.active && not (has_ended (placed lines))) (list_any (has_number p.number) (enclosing (placed lines))) h in
    let more = and_parts (is_if p && p.active) (not (has_ended (placed lines))) two.0 in
    record {
      encloses = (opener-at lines i p (has_number p.number) there (λ o g. eqb-true o.number p.number g ∙ number-at lines i p there) two.1).0;
      active = (and_parts (is_if p) p.active more.0).1;
      not_ended = ended-turned (placed lines) ∙ not-true (has_ended (placed lines)) more.1;
    }

-- there is no active END, and some enclosing line passes
any-open : (lines : List Reading) (i : ℕ) (p : Placed) (f : Placed → Bool) → IsUnclosed (reverse (placed lines)) i p → f p ≡ true → (not (has_ended (placed lines)) && list_any f (enclosing (placed lines))) ≡ true
any-open lines i p f u h = and_from _ _ (ap not (sym (ended-turned (placed lines)) ∙ u.not_ended)) (enclosing-any f (placed lines) i p u.encloses h)

unclosed-to : (lines : List Reading) (i : ℕ) (p : Placed) → IsUnclosed (reverse (placed lines)) i p → is_unclosed (placed lines) p ≡ true
unclosed-to lines i p u =
    let both = and_parts (not (has_ended (placed lines))) (list_any (has_number p.number) (enclosing (placed lines))) (any-open lines i p (has_number p.number) u (eq-eqb p.number p.number refl)) in
    rw (u.encloses.opens, u.active, both.0, both.1) refl

pub unclosed : (lines : List Reading) (i : ℕ) (p : Placed) → slice_get (reverse (placed lines)) i ≡ Some p → Decides (is_unclosed (placed lines) p) (IsUnclosed (reverse (placed lines)) i p)
unclosed lines i p there = (unclosed-from lines i p there, unclosed-to lines i p)

-- an active IF line at a place
abbrev pub opens_at : ℕ → Placed → Bool
opens_at place o = o.active && nat_eq o.number (place + 1)

-- an IF without ENDIF is an active IF whose block is open at the end
pub open-at : (lines : List Reading) (i : ℕ) (p : Placed) → slice_get (reverse (placed lines)) i ≡ Some p → (not (has_ended (placed lines)) && list_any (opens_at i) (enclosing (placed lines))) ≡ is_unclosed (placed lines) p
open-at lines i p there = one_answer (not (has_ended (placed lines)) && list_any (opens_at i) (enclosing (placed lines))) (is_unclosed (placed lines) p) (from, to) (unclosed lines i p there)
  where
    from : (not (has_ended (placed lines)) && list_any (opens_at i) (enclosing (placed lines))) ≡ true → IsUnclosed (reverse (placed lines)) i p
    from h =
        let two = and_parts (not (has_ended (placed lines))) (list_any (opens_at i) (enclosing (placed lines))) h in
        let here = opener-at lines i p (opens_at i) there (λ o g. eqb-true o.number (i + 1) (and_parts o.active (nat_eq o.number (i + 1)) g).1) two.1 in
        record { encloses = here.0; active = (and_parts p.active _ here.1).0; not_ended = ended-turned (placed lines) ∙ not-true (has_ended (placed lines)) two.0 }

    to : IsUnclosed (reverse (placed lines)) i p → (not (has_ended (placed lines)) && list_any (opens_at i) (enclosing (placed lines))) ≡ true
    to u = any-open lines i p (opens_at i) u (and_from _ _ u.active (eq-eqb p.number (i + 1) (number-at lines i p there)))
