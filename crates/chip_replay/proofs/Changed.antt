-- Everything kept after a change of the image is valid for the new run.
use Rattle.std.proofs.Common.{◌≡◌, ℕ, zero, suc, ◌+◌, ◌*◌, ◌/◌, ◌<◌, ◌≤◌, min, Bool, true, false, cond, not, ltb, List, [], ◌∷◌, map, take, length, get_or, slice_index, slice_index_or, refl, sym, ap, ◌∙◌, subst, arith, ◌⊎◌, inl, inr, get_or-take, length-take, ◌&&◌}
use Rattle.std.proofs.Math.Nat.{suc-mul}
use Rattle.std.proofs.lemmas.List.Sums.{prefix_len-le-length}
use Rattle.std.proofs.lemmas.List.{length-map, map-id, get_or-map}
use Rattle.std.proofs.lemmas.Bool.{and_from, cases_lt, false≢true}
use Rattle.std.proofs.lemmas.Bool.Decides.{nat_tests}
use Rattle.std.proofs.lemmas.Option.{IfSome_then}
use Rattle.std.specs.List.{position_or_len, range_with_len}
use Rattle.std.proofs.lemmas.List.FromFn.{get_or-range_with_len, length-range_with_len}
use Rattle.std.proofs.lemmas.List.Folds.{list_any_at}
use Rattle.chip_machine.specs.Touched.{is_among, touched}
use Rattle.chip_replay.proofs.TracedLaws.{IsTraced}
use Rattle.chip_replay.proofs.Spaced.{multiple_within, div_mono}
use Rattle.chip_machine.specs.Block.{ticks}
use Rattle.chip_replay.specs.Run.{run, first_below, IsStill}
use Rattle.chip_replay.specs.Image.{affected, touches_change, patched}
use Rattle.chip_machine.specs.State.{differs}
use Rattle.chip_replay.specs.inner.Kept.{IsFirst, IsTouched, AreCheckpoints, IsRight}
use Rattle.chip_replay.specs.inner.Changes.{KnowsKeys}
use Rattle.chip_replay.specs.Keys.{Events, held, is_down}
use Rattle.chip_replay.specs.declared.kept.Kept.{Kept}
use Rattle.chip_replay.proofs.ByStep.{knows_cut}
use Rattle.chip_replay.proofs.KeyFacts.{held-by}
use Rattle.chip_replay.proofs.Patched.{AllUntouched, run-patched, run-proper, patched-proper, after-patched, same_touches}
use Rattle.chip_replay.specs.Limits.{image_room, image_start, last_step, memory_size, never}

-- a first step, or `never`, if only the steps below m are known
first_cut_by : (b : Bool) (p q : ℕ → Bool) (n m v : ℕ) → ltb v m ≡ b → IsFirst p n v → m ≤ n → ((s : ℕ) → s < m → q s ≡ p s) → IsFirst q m (cond b v never)
first_cut_by true p q n m v e f l same =
    let below : v < m = grind (arith, nat_tests) in
    record {
      none_before = λ s ls h. f.none_before s (omega arith) (sym (same s ls) ∙ h);
      passes = λ lv. (below, same v below ∙ (f.passes lv).1);
    }
first_cut_by false p q n m v e f l same =
    let above : m ≤ v = grind (arith, nat_tests) in
    record {
      none_before = λ s ls h. absurd (omega (arith, f.none_before s (omega arith) (sym (same s ls) ∙ h)));
      passes = λ lv. absurd (omega arith);
    }

pub first_cut : (p q : ℕ → Bool) (n m v : ℕ) → IsFirst p n v → m ≤ n → ((s : ℕ) → s < m → q s ≡ p s) → IsFirst q m (cond (ltb v m) v never)
first_cut p q n m v f l same = first_cut_by (ltb v m) p q n m v refl f l same

later_at_most : (b : Bool) (place i : ℕ) → place ≤ i → cond (not b) (1 + place) 0 ≤ suc i
later_at_most true place i l = omega arith
later_at_most false place i l = omega arith

-- the first index that passes is not after any index that passes
first-hit : {X : Type 0} (p : X → Bool) (xs : List X) (i : ℕ) (d : X) → i < length xs → p (get_or xs i d) ≡ true → position_or_len p xs ≤ i
first-hit p [] i d l h = absurd (omega arith)
first-hit p (x ∷ xs) zero d l h = rw h (omega arith)
first-hit p (x ∷ xs) (suc i) d l h = later_at_most (p x) (position_or_len p xs) i (first-hit p xs i d (omega arith) h)

pub first_below-le : (p : ℕ → Bool) (f : ℕ) → first_below p f ≤ f
unfolding first_below
first_below-le p f = omega (arith, prefix_len-le-length (λ r. not (p r)) (range_with_len 0 f), length-range_with_len 0 f)

pub first_below-hit : (p : ℕ → Bool) (f r : ℕ) → r < f → p r ≡ true → first_below p f ≤ r
unfolding first_below
first_below-hit p f r l h =
    let place : get_or (range_with_len 0 f) r 0 ≡ r = get_or-range_with_len 0 f r 0 l ∙ omega arith in
    first-hit p (range_with_len 0 f) r 0 (omega (arith, length-range_with_len 0 f)) (ap p place ∙ h)

pub touches_change-at : {S : Type 0} (touches : S → List ℕ) (old new : List ℕ) (s : S) (i : ℕ) → i < image_room → differs old new i ≡ true → touched touches s (image_start + i) ≡ true → touches_change touches old new s ≡ true
unfolding touches_change
touches_change-at touches old new s i l d t =
    let place : get_or (range_with_len 0 image_room) i 0 ≡ i = get_or-range_with_len 0 image_room i 0 l ∙ omega arith in
    list_any_at (λ i. differs old new i && touched touches s (image_start + i)) (range_with_len 0 image_room) i 0 (omega (arith, length-range_with_len 0 image_room))
    (ap (λ j. differs old new j && touched touches s (image_start + j)) place ∙ and_from _ _ d t)

-- the checkpoints, truncated at m
pub checkpoints_cut : {M : Type 0} (proper : M → Type 0) (after : M → ℕ → Bool → M) (state : ℕ → M) (p reach m : ℕ) (cs cs' : List M) → 0 < p → AreCheckpoints proper after state p reach cs
    → m ≤ reach → cs' ≡ take (m / p) cs → AreCheckpoints proper after state p m cs'
checkpoints_cut proper after state p reach m cs cs' above are l cut =
    let size : length cs' ≡ min (m / p) (length cs) = ap length cut ∙ length-take (m / p) cs in
    record {
      proper_start = are.proper_start;
      in_range = omega (arith, are.in_range);
      few = omega (arith, size);
      each = λ i d li.
          (let inside : i < m / p = omega (arith, size) in
          let there : i < length cs = omega (arith, size) in
          ap (λ xs. slice_index_or xs i d) cut ∙ get_or-take (m / p) cs i d inside ∙ are.each i d there);
      ends_still = λ fewer.
          (let same : length cs ≡ length cs' = omega arith in
          subst (λ n. IsStill after (state (n * p))) same (are.ends_still (omega (arith, div_mono m reach p above l))));
    }

-- the table of first touches, truncated at m
pub table_cut : {M : Type 0} (touches : M → ℕ → Bool) (state : ℕ → M) (table table' : List ℕ) (known m : ℕ) → IsTouched touches state known table → m ≤ known
    → table' ≡ map (λ v. cond (ltb v m) v never) table → IsTouched touches state m table'
table_cut touches state table table' known m was l e =
    record {
      size = ap length e ∙ length-map _ _ ∙ was.size;
      first = λ at la. subst (λ v. IsFirst (λ s. touches (state s) at) m v) (sym (ap (λ xs. slice_index xs at) e ∙ get_or-map _ table at 0 0 (omega (arith, was.size))))
          (first_cut _ _ known m _ (was.first at la) l (λ s ls. refl));
    }

-- no step at or after m touches anything
pub table_stays : {M : Type 0} (touches : M → ℕ → Bool) (state : ℕ → M) (table : List ℕ) (known m : ℕ) → IsTouched touches state known table → m ≤ known
    → ((s a : ℕ) → m ≤ s → touches (state s) a ≡ false) → IsTouched touches state m table
table_stays touches state table known m was l none =
    record {
      size = was.size;
      first = λ at la.
          (let firsts = was.first at la in
          record {
            none_before = λ s ls h. firsts.none_before s (omega arith) h;
            passes = λ lv. (
                let before = firsts.passes lv in
                elim (cases_lt (slice_index table at) m) [
                  | inl a ↦ (a, before.1)
                  | inr a ↦ absurd (false≢true (sym (none (slice_index table at) at a) ∙ before.1))
                ]);
          });
    }

-- no step below m touches an address whose first touch is m or later
pub not_touched : {M : Type 0} (touches : M → ℕ → Bool) (state : ℕ → M) (table : List ℕ) (reach m : ℕ) → IsTouched touches state reach table → m ≤ reach → (at : ℕ) → at < memory_size
    → m ≤ slice_index table at → (s : ℕ) → s < m → touches (state s) at ≡ false
not_touched touches state table reach m was within at la least s l =
    elim (touches (state s) at) as (λ b. touches (state s) at ≡ b → b ≡ false) [
      | true ↦ λ e. absurd (omega (arith, least, (was.first at la).none_before s (omega arith) e))
      | false ↦ λ e. refl
    ] refl

-- what is kept is correct for another run that agrees with the old run up to its reach, once the kept
-- states are changed
pub right_changed : {M : Type 0} (proper : M → Type 0) (touches : M → List ℕ) (after : M → ℕ → Bool → M) (rate : ℕ) (start start' : M) (events events' : Events) (kept kept' : Kept M)
    (change : M → M) → 0 < kept.spacing → IsRight proper touches after rate start events kept
    → kept'.checkpoints.items ≡ map change kept.checkpoints.items
    → kept' ≡ record kept { checkpoints = kept'.checkpoints; current = change kept.current; holding = kept'.holding }
    → proper start'
    → ((t : ℕ) → t ≤ kept.reach → run after rate (held events') start' t ≡ change (run after rate (held events) start t))
    → ((t : ℕ) → t < kept.reach → touches (change (run after rate (held events) start t)) ≡ touches (run after rate (held events) start t))
    → ((t : ℕ) → t < kept.reach → IsStill after (run after rate (held events) start t) → IsStill after (change (run after rate (held events) start t)))
    → ((t : ℕ) → t ≤ kept.reach → KnowsKeys events t kept.holding → KnowsKeys events' t kept'.holding)
    → IsRight proper touches after rate start' events' kept'
right_changed {M} proper touches after rate start start' events events' kept kept' change above right changed others start_proper same alike still knows =
    let cs = kept.checkpoints.items in
    let p = kept.spacing in
    let state = run after rate (held events) start in
    let later = run after rate (held events') start' in
    let size : length kept'.checkpoints.items ≡ length cs = ap length changed ∙ length-map cs change in
    subst (λ (k : Kept M). IsRight proper touches after rate start' events' k) (sym others) (record {
      checkpoints = record {
        proper_start = start_proper;
        in_range = right.checkpoints.in_range;
        few = omega (arith, size, right.checkpoints.few);
        each = λ i d li.
            (let there : i < length cs = omega (arith, size) in
            let inside : i < kept.reach / p = omega (arith, right.checkpoints.few) in
            ap (λ xs. slice_index_or xs i d) changed ∙ get_or-map change cs i d d there ∙ ap change (right.checkpoints.each i d there)
            ∙ sym (same ((i + 1) * p) (multiple_within i kept.reach p inside)));
        ends_still = λ fewer.
            (let few : length cs < kept.reach / p = omega (arith, size) in
            let place = length cs * p in
            let early : place < kept.reach = omega (arith, multiple_within (length cs) kept.reach p few, suc-mul (length cs) p) in
            subst (λ n. IsStill after (later (n * p))) (sym size) (subst (IsStill after) (sym (same place (omega arith))) (still place early (right.checkpoints.ends_still few))));
      };
      table = record {
        size = right.table.size;
        first = λ at la.
            (let was = right.table.first at la in
            let touched_alike = λ (t : ℕ) (l : t < kept.reach). ap (λ s. touched touches s at) (same t (omega arith)) ∙ ap (λ xs. is_among xs at) (alike t l) in
            record {
              none_before = λ s ls h. was.none_before s ls (sym (touched_alike s ls) ∙ h);
              passes = λ lv. (let before = was.passes lv in (before.0, touched_alike (slice_index kept.first_touch.items at) before.0 ∙ before.1));
            });
      };
      current = IfSome_then kept.current_step right.current (λ t is. record {
        reached = is.reached;
        current = ap change is.current ∙ sym (same t is.reached);
        holding = knows t is.reached is.holding;
      });
    })

-- a run under keys that agree in the steps below m
run-same : {S : Type 0} (after : S → ℕ → Bool → S) (rate : ℕ) (held later : ℕ → ℕ) (start : S) (t : ℕ) → ((s : ℕ) → s < t → later s ≡ held s) → run after rate later start t ≡ run after rate held start t
run-same after rate held later start zero same = refl
run-same after rate held later start (suc t) same =
    ap (λ s. after s (later t) (ticks rate t)) (run-same after rate held later start t (λ s l. same s (omega arith)))
    ∙ ap (λ k. after (run after rate held start t) k (ticks rate t)) (same t (omega arith))

-- a kept run, up to a step from which the events differ
pub right_keys : {M : Type 0} (proper : M → Type 0) (touches : M → List ℕ) (after : M → ℕ → Bool → M) (rate : ℕ) (start : M) (events later : Events) (kept : Kept M) (from : ℕ)
    → 0 < kept.spacing → IsRight proper touches after rate start events kept → kept.reach ≤ from → ((s : ℕ) → s < from → (k : ℕ) → is_down later k s ≡ is_down events k s)
    → IsRight proper touches after rate start later (record kept { holding = record kept.holding { until = min kept.holding.until from } })
right_keys {M} proper touches after rate start events later kept from above right within same =
    let kept' : Kept M = record kept { holding = record kept.holding { until = min kept.holding.until from } } in
    right_changed proper touches after rate start start events later kept kept' (λ x. x) above right
    (sym (map-id kept.checkpoints.items)) refl right.checkpoints.proper_start
    (λ t l. run-same after rate (held events) (held later) start t (λ s ls. held-by events later s (same s (omega arith))))
    (λ t l. refl) (λ t l still. still) (λ t l knows. knows_cut events later t from kept.holding (omega arith) same knows)

-- the first step that touches a changed byte is at most m
module _ {S : Type 0} (touches : S → List ℕ) (after : S → ℕ → Bool → S) (rate : ℕ) (held : ℕ → ℕ) (start : S) (table : List ℕ) (reach : ℕ) (small : reach ≤ last_step)
    (was : IsTouched (touched touches) (run after rate held start) reach table) (old new : List ℕ) where
  pub affected_le : (m : ℕ) → m ≤ reach → (m ≡ reach) ⊎ ((i : ℕ) × (i < image_room) × (differs old new i ≡ true) × (m ≡ slice_index table (image_start + i)))
      → affected touches after rate held old new start reach ≤ m
  affected_le m within (inl e) = omega (arith, first_below-le (λ s. touches_change touches old new (run after rate held start s)) reach)
  affected_le m within (inr (i, li, d, e)) =
      elim (cases_lt m reach) [
        | inl a ↦
            (let hit = (was.first (image_start + i) (omega arith)).passes (omega (arith, small)) in
            first_below-hit (λ s. touches_change touches old new (run after rate held start s)) reach m a
            (touches_change-at touches old new (run after rate held start m) i li d (ap (λ s. touched touches (run after rate held start s) (image_start + i)) e ∙ hit.1)))
        | inr a ↦ omega (arith, first_below-le (λ s. touches_change touches old new (run after rate held start s)) reach)
      ]

-- patching what is kept is correct if no known step touches a byte at which the images differ
pub right_patched : {S : Type 0} (memory : S → List ℕ) (with_memory : S → List ℕ → S) (proper : S → Type 0) (touches : S → List ℕ) (after : S → ℕ → Bool → S)
    (laws : IsTraced memory with_memory proper touches after) (rate : ℕ) (start : S) (events : Events) (kept kept' : Kept S) (old new : List ℕ) → 0 < kept.spacing
    → IsRight proper touches after rate start events kept
    → ((s : ℕ) → s < kept.reach → AllUntouched memory with_memory proper touches after laws old new (run after rate (held events) start s))
    → kept'.checkpoints.items ≡ map (patched memory with_memory old new) kept.checkpoints.items
    → kept' ≡ record kept { checkpoints = kept'.checkpoints; current = patched memory with_memory old new kept.current }
    → IsRight proper touches after rate (patched memory with_memory old new start) events kept'
right_patched memory with_memory proper touches after laws rate start events kept kept' old new above right untouched checkpoints others =
    let state = run after rate (held events) start in
    let proper_start = right.checkpoints.proper_start in
    let proper_at = run-proper memory with_memory proper touches after laws rate (held events) start proper_start in
    right_changed proper touches after rate start (patched memory with_memory old new start) events events kept kept' (patched memory with_memory old new) above right checkpoints
    (rw others refl)
    (patched-proper memory with_memory proper touches after laws old new start proper_start)
    (λ t l. run-patched memory with_memory proper touches after laws old new rate (held events) start proper_start t (λ r lr. untouched r (omega arith)))
    (λ t l. same_touches memory with_memory proper touches after laws old new (state t) (proper_at t) (untouched t l))
    (λ t l still keys tick. after-patched memory with_memory proper touches after laws old new (state t) keys tick (proper_at t) (untouched t l) ∙ ap (patched memory with_memory old new)
    (still keys tick))
    (λ t l knows. rw others knows)
