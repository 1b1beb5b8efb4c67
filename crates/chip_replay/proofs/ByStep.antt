-- The key events, ordered by step, entry by entry.
use Rattle.std.proofs.Common.{◌≡◌, ◌≢◌, ℕ, zero, suc, ◌+◌, ◌-◌, ◌<◌, ◌≤◌, Bool, false, add-one, List, [], ◌∷◌, length, length-set, set, get_or, slice_index_or, Some, None, refl, sym, ap, ◌∙◌, subst, arith, inl, inr, get_or-set_same, get_or-set_other}
use Rattle.std.proofs.lemmas.Bool.{cases_eq, cases_lt}
use Rattle.std.proofs.lemmas.List.{get_or_default}
use Rattle.std.specs.Prelude.{min}
use Rattle.chip_replay.proofs.LastEvent.{is_down-stays, is_down-none, is_down-last}
use Rattle.chip_replay.proofs.InOrder.{change_none, change_there, steps_rise}
use Rattle.chip_replay.specs.inner.Changes.{IsInOrder, IsFirstFrom, SaysTheSame, after_events, change_at, was_down, KnowsKeys, HoldsKeys}
use Rattle.chip_replay.specs.declared.by_step.Event.{Event}
use Rattle.chip_replay.specs.declared.keys.Holding.{Holding}
use Rattle.chip_replay.specs.Mask.{mask}
use Rattle.chip_replay.proofs.KeyFacts.{mask-bits, mask-same}
use Rattle.chip_replay.specs.Keys.{Events, event_at, is_down, held}

-- one more entry of a table is filled
pub set_more : (xs : List Bool) (i : ℕ) (x : Bool) (f : ℕ → Bool) → i < length xs → ((k : ℕ) → k < i → slice_index_or xs k false ≡ f k) → x ≡ f i → (k : ℕ) → k < i + 1 → slice_index_or (set xs i x) k false ≡ f k
set_more xs i x f inside below here k l =
    elim (cases_eq k i) [
      | inl e ↦ subst (λ j. slice_index_or (set xs i x) j false ≡ f j) (sym e) (get_or-set_same xs i x false inside ∙ here)
      | inr n ↦ get_or-set_other xs i k x false n ∙ below k (omega arith)
    ]

pub was_down-above : (events : Events) (key step : ℕ) → step ≢ 0 → was_down events key step ≡ is_down events key (step - 1)
was_down-above events key zero n = absurd (n refl)
was_down-above events key (suc step) n = let same : step ≡ suc step - 1 = omega arith in ap (is_down events key) same

-- the keys known at the start of a step are held in it, if no event is passed
pub knows_holds : (events : Events) (s : ℕ) (h : Holding) → KnowsKeys events s h → s < h.until → HoldsKeys events s h
knows_holds events s h knows within =
    record {
      within = within;
      size = knows.size;
      as_mask = knows.as_mask;
      stays = λ r k lr lu lk. ap (was_down events k) (sym (add-one r)) ∙ knows.before (r + 1) k (omega arith) (omega arith) lk;
    }

-- the keys held in a step are held in the later steps before the next event
pub holds_later : (events : Events) (s t : ℕ) (h : Holding) → HoldsKeys events s h → s ≤ t → t < h.until → HoldsKeys events t h
holds_later events s t h holds later within =
    record {
      within = within;
      size = holds.size;
      as_mask = holds.as_mask;
      stays = λ r k lr lu lk. holds.stays r k (omega arith) lu lk;
    }

-- no key is down before the first event
pub knows_none : (events : Events) (s : ℕ) (h : Holding) → h.until ≡ 0 → length h.down ≡ 16 → h.keys ≡ mask (λ k. slice_index_or h.down k false) 16 → ((k : ℕ) → k < 16 → slice_index_or h.down k false ≡ false) → KnowsKeys events s h
knows_none events s h none size as_mask up =
    record {
      size = size;
      as_mask = as_mask;
      before = λ r k lr lu lk. (let first : r ≡ 0 = omega arith in ap (was_down events k) first ∙ sym (up k lk));
    }

pub holds_held : (events : Events) (s : ℕ) (h : Holding) → HoldsKeys events s h → h.keys ≡ held events s
unfolding held
holds_held events s h holds = holds.as_mask ∙ mask-same _ _ 16 (λ k l. sym (holds.stays s k (omega arith) holds.within l))

-- if there is no event from one step up to another, the key stays down or up
is_down-was_down : (events : Events) (k from s : ℕ) → from ≤ s + 1 → ((r : ℕ) → from ≤ r → r ≤ s → event_at events r k ≡ None) → is_down events k s ≡ was_down events k from
is_down-was_down events k zero s l none = is_down-none events k s (λ r lr. none r (omega arith) lr)
is_down-was_down events k (suc from) s l none = is_down-stays events k from s (omega arith) (λ r lf lr. none r (omega arith) lr)

-- the known keys, under events that hold the same keys in each step
was_same : (events later : Events) → held later ≡ held events → (k s : ℕ) → k < 16 → was_down later k s ≡ was_down events k s
unfolding held
was_same events later same k zero l = refl
was_same events later same k (suc s) l =
    mask-bits (λ key. is_down later key s) (λ key. is_down events key s) 16 (ap (λ (h : ℕ → ℕ). h s) same) k l

pub knows_same : (events later : Events) (s : ℕ) (h : Holding) → held later ≡ held events → KnowsKeys later s h → KnowsKeys events s h
knows_same events later s h same knows =
    record {
      size = knows.size;
      as_mask = knows.as_mask;
      before = λ r k lr lu lk. sym (was_same events later same k r lk) ∙ knows.before r k lr lu lk;
    }

pub length-after : (down : List Bool) (es : List Event) (n : ℕ) → length (after_events down es n) ≡ length down
length-after down es zero = refl
length-after down [] (suc n) = refl
length-after down (e ∷ es) (suc n) = length-after (set down e.key e.down) es n ∙ length-set down e.key e.down

-- the last of the first n events sets its key after the other events
after_suc : (down : List Bool) (es : List Event) (n : ℕ) (d : Event) → n < length es → after_events down es (suc n) ≡ set (after_events down es n) (get_or es n d).key (get_or es n d).down
after_suc down [] n d l = absurd (omega (arith, l))
after_suc down (e ∷ es) zero d l = refl
after_suc down (e ∷ es) (suc n) d l = after_suc (set down e.key e.down) es n d (omega (arith, l))

pub after_more : (down : List Bool) (es : List Event) (n : ℕ) (d : Event) → n < length es → after_events down es (n + 1) ≡ set (after_events down es n) (get_or es n d).key (get_or es n d).down
after_more down es n d l = ap (after_events down es) (add-one n) ∙ after_suc down es n d l

-- the table after the events in order up to an index: for each key, it contains the key's state in
-- each step that includes these events and no later event of that key
abbrev pub IsUpTo : Events → List Event → ℕ → ℕ → List Bool → Type 0
IsUpTo events es from place down =
    (k s : ℕ) → k < 16 → from ≤ s + 1
    → ((i : ℕ) (d : Event) → i < place → (get_or es i d).step ≤ s)
    → ((i : ℕ) (d : Event) → place ≤ i → i < length es → (get_or es i d).step ≤ s → k ≢ (get_or es i d).key)
    → is_down events k s ≡ slice_index_or down k false

module _ (events : Events) (es : List Event) (order : IsInOrder es) (same : SaysTheSame events es) where
  no_event : (s k : ℕ) → k < 16 → ((i : ℕ) (d : Event) → i < length es → s ≡ (get_or es i d).step → k ≢ (get_or es i d).key) → event_at events s k ≡ None
  no_event s k l other = sym (same s k l) ∙ change_none es s k other

  pub up_to_first : (from place : ℕ) (down : List Bool) → IsFirstFrom es from place → ((k : ℕ) → k < 16 → was_down events k from ≡ slice_index_or down k false) → IsUpTo events es from place down
  up_to_first from place down first before k s lk lf early late =
      is_down-was_down events k from s lf (λ r low high. no_event r k lk (λ i d li p q. elim (cases_lt i place) [
        | inl a ↦ omega (arith, first.before i d a, p)
        | inr a ↦ late i d a li (omega (arith, p)) q
      ])) ∙ before k lk

  -- the event at the index is passed
  pub up_to_more : (from place : ℕ) (down : List Bool) (e : Event) → place < length es → ((d : Event) → get_or es place d ≡ e) → length down ≡ 16 → IsUpTo events es from place down → IsUpTo events es from (place + 1) (set down e.key e.down)
  up_to_more from place down e inside there size before k s lk lf early late = elim (cases_eq k e.key) [
    | inl is ↦ (
        let at : (get_or es place e).step ≤ s = early place e (omega arith) in
        let says : event_at events e.step k ≡ Some e.down =
        ap (event_at events e.step) is
        ∙ sym (same e.step e.key (omega (arith, is)))
        ∙ ap (λ (x : Event). change_at es x.step x.key) (sym (there e))
        ∙ change_there es order place e inside ∙ ap (λ (x : Event). Some x.down) (there e) in
        is_down-last events k e.step s e.down (omega (arith, at, ap (λ (x : Event). x.step) (there e))) says
        (λ r low high. no_event r k lk (λ i d li p q. elim (cases_lt i place) [
          | inl a ↦ omega (arith, steps_rise es order i place d a inside, ap (λ (x : Event). x.step) (there d), p)
          | inr a ↦ elim (cases_eq i place) [
            | inl f ↦ omega (arith, ap (λ n. (get_or es n d).step) f, ap (λ (x : Event). x.step) (there d), p)
            | inr n ↦ late i d (omega (arith, n)) li (omega (arith, p)) q
          ]
        ]))
        ∙ sym (ap (λ n. slice_index_or (set down e.key e.down) n false) is ∙ get_or-set_same down e.key e.down false (omega (arith, size, is))))
    | inr other ↦ (
        before k s lk lf (λ i d l. early i d (omega arith)) (λ i d l li ls q. elim (cases_eq i place) [
          | inl f ↦ other (q ∙ ap (λ n. (get_or es n d).key) f ∙ ap (λ (x : Event). x.key) (there d))
          | inr n ↦ late i d (omega (arith, n)) li ls q
        ])
        ∙ sym (get_or-set_other down e.key k e.down false other))
  ]

  -- the events of a part that starts at the index are passed, up to one of them
  pub up_to_passed : (from place : ℕ) (down : List Bool) (part : List Event) (n : ℕ) → place + length part ≤ length es → ((i : ℕ) (d : Event) → i < length part → get_or es (place + i) d ≡ get_or part i d) → n ≤ length part → length down ≡ 16 → IsUpTo events es from place down → IsUpTo events es from (place + n) (after_events down part n)
  up_to_passed from place down part zero within there l size before = subst (λ p. IsUpTo events es from p down) (omega arith) before
  up_to_passed from place down part (suc n) within there l size before =
      let none : Event = record { step = 0; key = 0; down = false } in
      let e = get_or part n none in
      let inside : n < length part = omega (arith, l) in
      let at : (d : Event) → get_or es (place + n) d ≡ e = λ d. there n d inside ∙ get_or_default part n d none inside in
      let earlier = up_to_passed from place down part n within there (omega (arith, l)) size before in
      let passed = up_to_more from (place + n) (after_events down part n) e (omega (arith, inside, within)) at (length-after down part n ∙ size) earlier in
      let next : place + n + 1 ≡ place + suc n = omega arith in
      subst (λ p. IsUpTo events es from p (after_events down part (suc n))) next
      (subst (λ xs. IsUpTo events es from (place + n + 1) xs) (sym (after_suc down part n none inside)) passed)

  -- every event in a step before the next event's step has been passed
  pub up_to_holds : (from place step until : ℕ) (down : List Bool) → from ≤ step → IsUpTo events es from place down → ((i : ℕ) (d : Event) → i < place → (get_or es i d).step ≤ step) → ((i : ℕ) (d : Event) → place ≤ i → i < length es → until ≤ (get_or es i d).step) → (s k : ℕ) → step ≤ s → s < until → k < 16 → is_down events k s ≡ slice_index_or down k false
  up_to_holds from place step until down low before early late s k ls lu lk =
      before k s lk (omega arith) (λ i d l. omega (arith, early i d l)) (λ i d l li under q. omega (arith, late i d l li, under))

was_down-same : (events later : Events) (from t k : ℕ) → t ≤ from → ((s : ℕ) → s < from → (k : ℕ) → is_down later k s ≡ is_down events k s) → was_down later k t ≡ was_down events k t
was_down-same events later from zero k l same = refl
was_down-same events later from (suc t) k l same = same t (omega arith) k

-- the keys known at the start of a step, under events that agree in the steps below `from`
pub knows_cut : (events later : Events) (t from : ℕ) (h : Holding) → t ≤ from → ((s : ℕ) → s < from → (k : ℕ) → is_down later k s ≡ is_down events k s) → KnowsKeys events t h
    → KnowsKeys later t (record h { until = min h.until from })
knows_cut events later t from h within same before =
    record {
      size = before.size;
      as_mask = before.as_mask;
      before = λ s k ls lu l. was_down-same events later from s k (omega arith) same ∙ before.before s k (omega arith) (omega arith) l;
    }
