-- Lemmas about masks of keys.
use Rattle.std.proofs.Common.{◌≡◌, ℕ, zero, suc, ◌+◌, ◌<◌, ◌≤◌, ◌^◌, Bool, true, false, cond, leb, eqb, ◌&&◌, List, length, set, slice_index_or, inl, inr, get_or-set_same, get_or-set_other, Option, Some, None, is_some, unwrap_or, ◌≢◌, refl, sym, ap, ◌∙◌, arith}
use Rattle.std.specs.FinMap as map
use Rattle.std.proofs.lemmas.Bool.Decides.{nat_tests}
use Rattle.std.proofs.lemmas.Bool.{cases_eq, le-ltb, ne_eqb}
use Rattle.std.proofs.Math.Nat.{pow-suc}
use Rattle.std.proofs.Math.Pow.{pow_mono}
use Rattle.std.specs.Ordering.{eq_by_cmp, is_eq}
use Rattle.std.specs.Cmp.{eq_by_cmp_equiv}
use Rattle.std.specs.declared.cmp.Ordering.TheVariants.{Less, Equal, Greater}
use Rattle.chip_replay.specs.declared.keys.Moment.{Moment}
use Rattle.chip_replay.specs.declared.by_step.Event.{Event}
use Rattle.chip_replay.proofs.Moments.{exact_moments, moments_total}
use Rattle.chip_replay.specs.inner.Changes.{change_at, SaysTheSame}
use Rattle.chip_replay.specs.Mask.{mask}
use Rattle.chip_replay.specs.Keys.{Events, held, is_down, event_at, moment_cmp, insert_fault, edit_fault}
use Rattle.chip_replay.specs.declared.keys.KeyFault.TheVariants.{EventThere, NoEvent, TooManyEvents}
use Rattle.chip_replay.specs.Limits.{last_step, most_events}

digit-le : (b : Bool) (m : ℕ) → cond b m 0 ≤ m
digit-le true m = omega arith
digit-le false m = omega arith

pub mask-lt : (p : ℕ → Bool) (n : ℕ) → mask p n < 2 ^ n
unfolding mask
mask-lt p zero = omega arith
mask-lt p (suc n) = omega (arith, mask-lt p n, digit-le (p n) (2 ^ n), pow-suc 2 n)

-- the fault of an edit whose step and key are in range
pub edit_fault-in_range : (events : Events) (step key : ℕ) (b : Bool) → step ≤ last_step → key ≤ 15 → is_some (event_at events step key) ≡ b → edit_fault events step key ≡ cond b None (Some NoEvent)
edit_fault-in_range events step key b s k e =
    rw (le-ltb last_step step s, le-ltb 15 key k) (ap (λ t. cond t None (Some NoEvent)) e)

pub insert_fault-in_range : (events : Events) (step key : ℕ) (b c : Bool) → step ≤ last_step → key ≤ 15 → is_some (event_at events step key) ≡ b → leb most_events (map.len events) ≡ c → insert_fault events step key ≡ cond b (Some EventThere) (cond c (Some TooManyEvents) None)
insert_fault-in_range events step key b c s k e f =
    rw (le-ltb last_step step s, le-ltb 15 key k)
    (ap (λ t. cond t (Some EventThere) (cond (leb most_events (map.len events)) (Some TooManyEvents) None)) e ∙ ap (λ t. cond b (Some EventThere) (cond t (Some TooManyEvents) None)) f)

-- if an edit is not refused, its event exists
pub there_if_no_fault : (events : Events) (step key : ℕ) → edit_fault events step key ≡ None → is_some (event_at events step key) ≡ true
there_if_no_fault events step key h = grind (arith, nat_tests)

-- if an edit is not refused, its key is one of the 16
pub key_if_no_fault : (events : Events) (step key : ℕ) → edit_fault events step key ≡ None → key < 16
key_if_no_fault events step key h = grind (arith, nat_tests)

-- if an event may be added, there is no event at its step and key
pub absent_if_no_fault : (events : Events) (step key : ℕ) → insert_fault events step key ≡ None → event_at events step key ≡ None
absent_if_no_fault events step key h = grind (arith, nat_tests)

pub pow-small : (k : ℕ) → k < 16 → 2 ^ k ≤ 32768
pow-small k l = let h : 2 ^ k ≤ 2 ^ 15 = pow_mono {i = k} {j = 15} (omega arith) in h

pub mask-same : (p q : ℕ → Bool) (n : ℕ) → ((k : ℕ) → k < n → p k ≡ q k) → mask p n ≡ mask q n
unfolding mask
mask-same p q zero same = refl
mask-same p q (suc n) same =
    ap (λ m. m + cond (p n) (2 ^ n) 0) (mask-same p q n (λ k l. same k (omega arith))) ∙ ap (λ b. mask q n + cond b (2 ^ n) 0) (same n (omega arith))

-- equal masks have the same top bit and the same rest
top_bit : (a b : Bool) (m n t : ℕ) → m < t → n < t → m + cond a t 0 ≡ n + cond b t 0 → (a ≡ b) × (m ≡ n)
top_bit true true m n t l h e = (refl, omega (arith, e))
top_bit true false m n t l h e = absurd (omega (arith, e))
top_bit false true m n t l h e = absurd (omega (arith, e))
top_bit false false m n t l h e = (refl, omega (arith, e))

pub mask-bits : (p q : ℕ → Bool) (n : ℕ) → mask p n ≡ mask q n → (k : ℕ) → k < n → p k ≡ q k
unfolding mask
mask-bits p q zero e k l = absurd (omega arith)
mask-bits p q (suc n) e k l =
    let top = top_bit (p n) (q n) (mask p n) (mask q n) (2 ^ n) (mask-lt p n) (mask-lt q n) e in
    elim (cases_eq k n) [
      | inl same ↦ ap p same ∙ top.0 ∙ sym (ap q same)
      | inr other ↦ mask-bits p q n top.1 k (omega (arith, other))
    ]

-- after an entry of a table is set, its bit in the mask is the new bit and not the old one
pub mask-set : (xs : List Bool) (i : ℕ) (b : Bool) (n : ℕ) → i < length xs → i < n → mask (λ k. slice_index_or (set xs i b) k false) n + cond (slice_index_or xs i false) (2 ^ i) 0 ≡ mask (λ k. slice_index_or xs k false) n + cond b (2 ^ i) 0
unfolding mask
mask-set xs i b zero inside l = absurd (omega arith)
mask-set xs i b (suc n) inside l =
    elim (cases_eq i n) [
      | inl e ↦ (
          let below : mask (λ k. slice_index_or (set xs i b) k false) n ≡ mask (λ k. slice_index_or xs k false) n = mask-same _ _ n (λ k lk. get_or-set_other xs i k b false (λ q. omega (arith, q, e))) in
          let here : slice_index_or (set xs i b) n false ≡ b = ap (λ j. slice_index_or (set xs i b) j false) (sym e) ∙ get_or-set_same xs i b false inside in
          omega (arith, below, ap (λ t. cond t (2 ^ n) 0) here, ap (λ j. cond (slice_index_or xs j false) (2 ^ j) 0) e, ap (λ j. cond b (2 ^ j) 0) e))
      | inr other ↦ (
          let rest = mask-set xs i b n inside (omega (arith, other)) in
          let same : slice_index_or (set xs i b) n false ≡ slice_index_or xs n false = get_or-set_other xs i n b false (λ q. other (sym q)) in
          omega (arith, rest, ap (λ t. cond t (2 ^ n) 0) same))
    ]

apart : (q m : Moment) → q ≢ m → eq_by_cmp moment_cmp q m ≡ false
apart q m n =
    elim (moment_cmp q m) as (λ r. moment_cmp q m ≡ r → is_eq r ≡ false) [
      | Less ↦ λ e. refl
      | Equal ↦ λ e. absurd (n (exact_moments q m e))
      | Greater ↦ λ e. refl
    ] refl

-- whether two moments are equal
module _ (step key s k : ℕ) where
  abbrev there : Moment
  there = record { step = step; key = key }

  abbrev here : Moment
  here = record { step = s; key = k }

  same_by : (b c : Bool) → eqb s step ≡ b → eqb k key ≡ c → eq_by_cmp moment_cmp here there ≡ (b && c)
  same_by true true e f =
      let same_step : s ≡ step = grind (arith, nat_tests) in
      let same_key : k ≡ key = grind (arith, nat_tests) in
      let same : here ≡ there = ap (λ n. let m : Moment = record { step = n; key = k } in m) same_step ∙ ap (λ n. let m : Moment = record { step = step; key = n } in m) same_key in
      ap (λ m. eq_by_cmp moment_cmp m there) same ∙ (eq_by_cmp_equiv moments_total).refl there
  same_by true false e f =
      let n : k ≢ key = grind (arith, nat_tests) in
      apart here there (λ m. n (ap (λ (x : Moment). x.key) m))
  same_by false c e f =
      let n : s ≢ step = grind (arith, nat_tests) in
      apart here there (λ m. n (ap (λ (x : Moment). x.step) m))

  pub same_moment : eq_by_cmp moment_cmp here there ≡ (eqb s step && eqb k key)
  same_moment = same_by _ _ refl refl

pub event_at-insert : (events : Events) (step key : ℕ) (down : Bool) (s k : ℕ) → event_at (map.insert events (record { step = step; key = key }) down) s k ≡ cond (eqb s step && eqb k key) (Some down) (event_at events s k)
event_at-insert events step key down s k =
    map.get-insert moments_total events (record { step = step; key = key }) down (record { step = s; key = k })
    ∙ ap (λ b. cond b (Some down) (event_at events s k)) (same_moment step key s k)

pub event_at-remove : (events : Events) (step key s k : ℕ) → event_at (map.remove events (record { step = step; key = key })) s k ≡ cond (eqb s step && eqb k key) None (event_at events s k)
event_at-remove events step key s k =
    map.get-remove moments_total events (record { step = step; key = key }) (record { step = s; key = k })
    ∙ ap (λ b. cond b None (event_at events s k)) (same_moment step key s k)

-- an edit of the events by key and the same edit of the events by step agree
pub says_set : (events later : Events) (es fs : List Event) (step key : ℕ) (event : Option Bool) → SaysTheSame events es → ((s k : ℕ) → change_at fs s k ≡ cond (eqb s step && eqb k key) event (change_at es s k)) → ((s k : ℕ) → event_at later s k ≡ cond (eqb s step && eqb k key) event (event_at events s k)) → SaysTheSame later fs
says_set events later es fs step key event says set edited = λ s k l.
    set s k ∙ ap (cond (eqb s step && eqb k key) event) (says s k l) ∙ sym (edited s k)

-- two lists of events that agree in the steps up to s hold the same keys at s
is_down-same : (events later : Events) (key s : ℕ) → ((r : ℕ) → r ≤ s → event_at later r key ≡ event_at events r key) → is_down later key s ≡ is_down events key s
is_down-same events later key zero same = ap (λ o. unwrap_or o false) (same 0 (omega arith))
is_down-same events later key (suc s) same =
    ap (λ o. unwrap_or o (is_down later key s)) (same (suc s) (omega arith)) ∙ ap (unwrap_or (event_at events (suc s) key)) (is_down-same events later key s (λ r l. same r (omega arith)))

insert_before : (events : Events) (step key : ℕ) (down : Bool) (r k : ℕ) → r < step → event_at (map.insert events (record { step = step; key = key }) down) r k ≡ event_at events r k
insert_before events step key down r k l =
    event_at-insert events step key down r k ∙ ap (λ b. cond (b && eqb k key) (Some down) (event_at events r k)) (ne_eqb r step (λ e. omega (arith, e, l)))

remove_before : (events : Events) (step key r k : ℕ) → r < step → event_at (map.remove events (record { step = step; key = key })) r k ≡ event_at events r k
remove_before events step key r k l =
    event_at-remove events step key r k ∙ ap (λ b. cond (b && eqb k key) None (event_at events r k)) (ne_eqb r step (λ e. omega (arith, e, l)))

-- an edit doesn't change the keys before its step
pub is_down-insert : (events : Events) (step key : ℕ) (down : Bool) (s : ℕ) → s < step → (k : ℕ) → is_down (map.insert events (record { step = step; key = key }) down) k s ≡ is_down events k s
is_down-insert events step key down s l k =
    is_down-same events (map.insert events (record { step = step; key = key }) down) k s (λ r lr. insert_before events step key down r k (omega arith))

pub is_down-remove : (events : Events) (step key s : ℕ) → s < step → (k : ℕ) → is_down (map.remove events (record { step = step; key = key })) k s ≡ is_down events k s
is_down-remove events step key s l k =
    is_down-same events (map.remove events (record { step = step; key = key })) k s (λ r lr. remove_before events step key r k (omega arith))

pub held-by : (events later : Events) (s : ℕ) → ((k : ℕ) → is_down later k s ≡ is_down events k s) → held later s ≡ held events s
unfolding held
held-by events later s same = mask-same _ _ 16 (λ k l. same k)
