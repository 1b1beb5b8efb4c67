-- The keys that are down after some events of a script, applied one after another.
use Rattle.std.proofs.Common.{◌≡◌, ◌≢◌, ℕ, zero, suc, ◌+◌, ◌^◌, ◌<◌, ◌≤◌, ◌&&◌, Bool, true, false, cond, eqb, List, [], ◌∷◌, ◌++◌, length, length-set, set, take, drop, fold, get_or, slice_index_or, Some, None, unwrap_or, refl, sym, ap, ◌∙◌, subst, arith, add-one, inl, inr, get_or-set_same, get_or-set_other}
use Rattle.std.proofs.Math.Seq.{take-suc}
use Rattle.std.proofs.lemmas.Bool.{cases_eq, cases_lt, false≢true, ne_eqb}
use Rattle.std.proofs.lemmas.Bool.Decides.{nat_tests}
use Rattle.std.proofs.lemmas.List.{drop_more, take-append-drop}
use Rattle.std.proofs.lemmas.List.Sums.{fold-append}
use Rattle.std.specs.FinMap as map
use Rattle.chip_machine.specs.Block.{ticks}
use Rattle.chip_machine.specs.Choices.{IsWithin}
use Rattle.chip_machine.specs.State.{State}
use Rattle.chip_machine.specs.Step.{step_of}
use Rattle.chip_replay.specs.Run.{run}
use Rattle.chip_replay.specs.Keys.{Events, event_at, held, is_down, moment_cmp}
use Rattle.chip_replay.specs.Mask.{mask}
use Rattle.chip_replay.proofs.KeyFacts.{event_at-insert, is_down-insert, mask-same}
use Rattle.chip_replay.proofs.LastEvent.{is_down-none, is_down-last}
use Rattle.chip_replay.proofs.Moments.{moments_total}
use Rattle.chip_explore.specs.Scripts.{are_in_order, keys_of, with_event}
use Rattle.chip_explore.specs.declared.confirm.Played.{Played}
use Rattle.chip_explore.specs.declared.script.KeyEvent.{KeyEvent}
use Rattle.chip_explore.specs.inner.Played.{IsPlayed}

-- ---- the order of the events

pub record IsFirst (step : ℕ) (e : KeyEvent) (es : List KeyEvent) : Type 0 where
  pub early : step ≤ e.step
  pub key : e.key < 16
  pub rest : are_in_order e.step es ≡ true

first : (step : ℕ) (e : KeyEvent) (es : List KeyEvent) → are_in_order step (e ∷ es) ≡ true → IsFirst step e es
first step e es h = record { early = grind (arith, nat_tests); key = grind (arith, nat_tests); rest = grind (arith, nat_tests) }

ordered : (step : ℕ) (e : KeyEvent) (es : List KeyEvent) → step ≤ e.step → e.key < 16 → are_in_order e.step es ≡ true → are_in_order step (e ∷ es) ≡ true
ordered step e es early key rest = grind (arith, nat_tests)

-- events that are in order from a step on are also in order from an earlier step on
ordered_from : (n m : ℕ) (es : List KeyEvent) → n ≤ m → are_in_order m es ≡ true → are_in_order n es ≡ true
ordered_from n m [] less h = refl
ordered_from n m (e ∷ es) less h =
    let is = first m e es h in
    let early = is.early in
    ordered n e es (omega arith) is.key is.rest

none_left : (xs : List KeyEvent) (n : ℕ) → length xs ≤ n → drop n xs ≡ []
none_left [] zero l = refl
none_left [] (suc n) l = refl
none_left (x ∷ xs) zero l = absurd (omega arith)
none_left (x ∷ xs) (suc n) l = none_left xs n (omega arith)

-- if the first of the remaining events is later than a step, all of them are
pub all_later : (events : List KeyEvent) (passed step : ℕ) → are_in_order step (drop passed events) ≡ true
    → ((d : KeyEvent) → passed < length events → step < (slice_index_or events passed d).step) → are_in_order (step + 1) (drop passed events) ≡ true
all_later events passed step h later =
    elim (cases_lt passed (length events)) [
      | inl inside ↦ (
          let none : KeyEvent = record { step = 0; key = 0; down = false } in
          let e = slice_index_or events passed none in
          let parts = drop_more events passed none inside in
          let is = first step e (drop (passed + 1) events) (subst (λ es. are_in_order step es ≡ true) parts h) in
          let above = later none inside in
          subst (λ es. are_in_order (step + 1) es ≡ true) (sym parts) (ordered (step + 1) e (drop (passed + 1) events) (omega (arith, above)) is.key is.rest))
      | inr outside ↦ subst (λ es. are_in_order (step + 1) es ≡ true) (sym (none_left events passed (omega arith))) refl
    ]

-- ---- one more event

and_false : (b : Bool) → (b && false) ≡ false
and_false true = refl
and_false false = refl

-- two lists of events that agree about a key up to a step
same_down : (events later : Events) (key s : ℕ) → ((r : ℕ) → r ≤ s → event_at later r key ≡ event_at events r key) → is_down later key s ≡ is_down events key s
same_down events later key zero same = ap (λ o. unwrap_or o false) (same 0 (omega arith))
same_down events later key (suc s) same =
    ap (λ o. unwrap_or o (is_down later key s)) (same (suc s) (omega arith)) ∙ ap (unwrap_or (event_at events (suc s) key)) (same_down events later key s (λ r l. same r (omega arith)))

module _ (events : Events) (s key : ℕ) (down : Bool) where
  abbrev more : Events
  more = map.insert events (record { key = key; step = s }) down

  elsewhere : (t k : ℕ) → s ≢ t → event_at more t k ≡ event_at events t k
  elsewhere t k n = event_at-insert events s key down t k ∙ ap (λ b. cond (b && eqb k key) (Some down) (event_at events t k)) (ne_eqb t s (λ e. n (sym e)))

  other_key : (t k : ℕ) → k ≢ key → event_at more t k ≡ event_at events t k
  other_key t k n =
      event_at-insert events s key down t k
      ∙ ap (λ b. cond (eqb t s && b) (Some down) (event_at events t k)) (ne_eqb k key n)
      ∙ ap (λ b. cond b (Some down) (event_at events t k)) (and_false (eqb t s))

  here : (k : ℕ) → k ≡ key → event_at more s k ≡ Some down
  here k e =
      let same_step : eqb s s ≡ true = search arith in
      let same_key : eqb k key ≡ true = search (arith, e) in
      event_at-insert events s key down s k ∙ rw (same_step, same_key) refl

  down_at : (t k : ℕ) → s ≤ t → ((r : ℕ) → s < r → event_at events r k ≡ None) → k ≡ key → is_down more k t ≡ down
  down_at t k l none e =
      is_down-last more k s t down l (here k e) (λ r lr ls. elsewhere r k (λ q. omega (arith, q)) ∙ none r lr)

  down_other : (t k : ℕ) → k ≢ key → is_down more k t ≡ is_down events k t
  down_other t k n = same_down events more k t (λ r l. other_key r k n)

-- later events don't change the keys at a step
later_same : (events : Events) (es : List KeyEvent) (t k : ℕ) → are_in_order (t + 1) es ≡ true → is_down (fold with_event events es) k t ≡ is_down events k t
later_same events [] t k h = refl
later_same events (e ∷ es) t k h =
    let is = first (t + 1) e es h in
    let early = is.early in
    later_same (with_event events e) es t k (ordered_from (t + 1) e.step es early is.rest)
    ∙ is_down-insert events e.step e.key e.down t (omega arith) k

-- ---- the applied events of a script

abbrev pub are_up : List Bool → Bool
are_up [] = true
are_up (true ∷ xs) = false
are_up (false ∷ xs) = are_up xs

up_at : (xs : List Bool) → are_up xs ≡ true → (k : ℕ) → slice_index_or xs k false ≡ false
up_at [] h k = refl
up_at (true ∷ xs) h k = absurd (false≢true h)
up_at (false ∷ xs) h zero = refl
up_at (false ∷ xs) h (suc k) = up_at xs h k

mask_none : (p : ℕ → Bool) (n : ℕ) → ((k : ℕ) → p k ≡ false) → mask p n ≡ 0
unfolding mask
mask_none p zero none = refl
mask_none p (suc n) none = ap (λ m. m + cond (p n) (2 ^ n) 0) (mask_none p n none) ∙ ap (λ b. 0 + cond b (2 ^ n) 0) (none n)

nothing_at : (t k : ℕ) → event_at map.empty t k ≡ None
nothing_at t k = map.get-empty moment_cmp (record { key = k; step = t })

pub none_played : (events : List KeyEvent) (p : Played) → are_in_order 0 events ≡ true → p.passed ≡ 0 → p.keys ≡ 0 → length p.down ≡ 16
    → are_up p.down ≡ true → IsPlayed events 0 0 p
none_played events p h none no_keys size all_up =
    let up = up_at p.down all_up in
    record {
      size = size;
      as_mask = no_keys ∙ sym (mask_none (λ k. slice_index_or p.down k false) 16 up);
      none_later = λ t k l. ap (λ n. event_at (keys_of (take n events)) t k) none ∙ nothing_at t k;
      says = λ t k l few. ap (λ n. is_down (keys_of (take n events)) k t) none ∙ is_down-none map.empty k t (λ s ls. nothing_at s k) ∙ sym (up k);
      rest = ap (λ n. are_in_order 0 (drop n events)) none ∙ h;
    }

pub before_step : (events : List KeyEvent) (step : ℕ) (p : Played) → IsPlayed events step step p → IsPlayed events (step + 1) step p
before_step events step p is =
    record {
      size = is.size;
      as_mask = is.as_mask;
      none_later = λ t k l. is.none_later t k (omega arith);
      says = λ t k l few. is.says t k (omega arith) few;
      rest = is.rest;
    }

pub after_step : (events : List KeyEvent) (step : ℕ) (p : Played) → IsPlayed events (step + 1) step p
    → ((d : KeyEvent) → p.passed < length events → step < (slice_index_or events p.passed d).step) → IsPlayed events (step + 1) (step + 1) p
after_step events step p is later =
    record {
      size = is.size;
      as_mask = is.as_mask;
      none_later = is.none_later;
      says = is.says;
      rest = all_later events p.passed step is.rest later;
    }

pub next_is : (events : List KeyEvent) (step : ℕ) (p : Played) (d : KeyEvent) → IsPlayed events (step + 1) step p → p.passed < length events
    → IsFirst step (slice_index_or events p.passed d) (drop (p.passed + 1) events)
next_is events step p d is inside =
    first step (slice_index_or events p.passed d) (drop (p.passed + 1) events)
    (subst (λ es. are_in_order step es ≡ true) (drop_more events p.passed d inside) is.rest)

pub next_key : (events : List KeyEvent) (step : ℕ) (p : Played) (d : KeyEvent) → IsPlayed events (step + 1) step p → p.passed < length events
    → (slice_index_or events p.passed d).key < 16
next_key events step p d is inside = (next_is events step p d is inside).key

-- one more event is applied
pub one_more : (events : List KeyEvent) (step : ℕ) (p q : Played) (d : KeyEvent) → IsPlayed events (step + 1) step p → p.passed < length events
    → (slice_index_or events p.passed d).step ≤ step → q.passed ≡ p.passed + 1
    → q.down ≡ set p.down (slice_index_or events p.passed d).key (slice_index_or events p.passed d).down
    → q.keys ≡ mask (λ k. slice_index_or q.down k false) 16 → IsPlayed events (step + 1) step q
one_more events step p q d is inside early passed down as_mask =
    record {
      size = ap length down ∙ length-set p.down e.key e.down ∙ is.size;
      as_mask = as_mask;
      none_later = λ t k l.
          ap (λ es. event_at es t k) taken
          ∙ elsewhere before e.step e.key e.down t k (λ same. omega (arith, same))
          ∙ is.none_later t k l;
      says = λ t k l few. ap (λ es. is_down es k t) taken ∙ says t k l few ∙ sym (ap (λ xs. slice_index_or xs k false) down);
      rest = ap (λ n. are_in_order step (drop n events)) passed ∙ ordered_from step e.step (drop (p.passed + 1) events) at.early at.rest;
    }
  where
    e : KeyEvent
    e = slice_index_or events p.passed d

    at : IsFirst step e (drop (p.passed + 1) events)
    at = next_is events step p d is inside

    before : Events
    before = keys_of (take p.passed events)

    taken : keys_of (take q.passed events) ≡ with_event before e
    taken =
        ap (λ n. keys_of (take n events)) (passed ∙ add-one p.passed)
        ∙ ap keys_of (take-suc events p.passed d inside)
        ∙ fold-append with_event map.empty (take p.passed events) (e ∷ [])

    says : (t k : ℕ) → step + 1 ≤ t + 1 → k < 16 → is_down (with_event before e) k t ≡ slice_index_or (set p.down e.key e.down) k false
    says t k l few =
        let first_at = at.early in
        elim (cases_eq k e.key) [
          | inl same ↦ (
              let size = is.size in
              let key = at.key in
              down_at before e.step e.key e.down t k (omega arith) (λ r lr. is.none_later r k (omega arith)) same
              ∙ sym (ap (λ j. slice_index_or (set p.down e.key e.down) j false) same ∙ get_or-set_same p.down e.key e.down false (omega arith)))
          | inr other ↦ down_other before e.step e.key e.down t k other ∙ is.says t k l few ∙ sym (get_or-set_other p.down e.key k e.down false other)
        ]

-- ---- a run under a script

-- one more step
pub ran_on : (rate : ℕ) (keys : ℕ → ℕ) (start machine next : State) (made down : ℕ) (tick : Bool) → machine ≡ run step_of rate keys start made → down ≡ keys made → tick ≡ ticks rate made
    → next ≡ step_of machine down tick → next ≡ run step_of rate keys start (made + 1)
ran_on rate keys start machine next made down tick reached held ticking steps =
    steps
    ∙ ap (λ (s : State). step_of s down tick) reached
    ∙ ap (λ (k : ℕ). step_of (run step_of rate keys start made) k tick) held
    ∙ ap (λ (b : Bool). step_of (run step_of rate keys start made) (keys made) b) ticking
    ∙ sym (ap (run step_of rate keys start) (add-one made))

-- with only allowed keys down
pub allowed_on : (allowed : ℕ) (keys : ℕ → ℕ) (made down : ℕ) → ((t : ℕ) → t < made → IsWithin allowed (keys t)) → down ≡ keys made → IsWithin allowed down
    → (t : ℕ) → t < made + 1 → IsWithin allowed (keys t)
allowed_on allowed keys made down before held within t below =
    elim (cases_lt t made) [
      | inl less ↦ before t less
      | inr other ↦ (
          let same : made ≡ t = omega (arith, other, below) in
          subst (λ (n : ℕ). IsWithin allowed (keys n)) same (subst (λ (k : ℕ). IsWithin allowed k) held within))
    ]

-- the keys that are down at a step
pub keys_held : (events : List KeyEvent) (step : ℕ) (p : Played) → IsPlayed events (step + 1) (step + 1) p → p.keys ≡ held (keys_of events) step
unfolding held
keys_held events step p is =
    is.as_mask ∙ mask-same _ _ 16 (λ k few. sym (
    ap (λ es. is_down (keys_of es) k step) (sym (take-append-drop p.passed events))
    ∙ ap (λ es. is_down es k step) (fold-append with_event map.empty (take p.passed events) (drop p.passed events))
    ∙ later_same (keys_of (take p.passed events)) (drop p.passed events) step k is.rest
    ∙ is.says step k (omega arith) few))
