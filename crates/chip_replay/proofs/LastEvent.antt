-- The last event of a key up to a step.
use Rattle.std.proofs.Common.{◌≡◌, ℕ, zero, suc, ◌<◌, ◌≤◌, Bool, false, Some, None, unwrap_or, refl, sym, ap, ◌∙◌, subst, arith, inl, inr}
use Rattle.std.proofs.lemmas.Bool.{cases_eq, false≢true}
use Rattle.std.specs.Prelude.{List, IsSome}
use Rattle.std.specs.BTreeMap.{is_at}
use Rattle.std.specs.Map.{lookup}
use Rattle.std.specs.FinMap as finmap
use Rattle.std.specs.Ordering.{is_gt, is_lt, nat_cmp, ordering_then}
use Rattle.std.specs.Cmp.{ranked, nat_cmp_is}
use Rattle.std.specs.declared.cmp.Ordering.TheVariants.{Less, Equal, Greater}
use Rattle.chip_replay.specs.declared.keys.Moment.{Moment}
use Rattle.chip_replay.specs.Keys.{Events, event_at, is_down, moment_cmp}
use Rattle.chip_replay.proofs.Moments.{get_moment}

-- if there is no event up to the step, the key is up
pub is_down-none : (events : Events) (key step : ℕ) → ((s : ℕ) → s ≤ step → event_at events s key ≡ None) → is_down events key step ≡ false
is_down-none events key zero none = ap (λ o. unwrap_or o false) (none 0 (omega arith))
is_down-none events key (suc step) none =
    ap (λ o. unwrap_or o (is_down events key step)) (none (suc step) (omega arith)) ∙ is_down-none events key step (λ s l. none s (omega arith))

-- the event at a step t, if no event follows it up to the step
pub is_down-last : (events : Events) (key t step : ℕ) (down : Bool) → t ≤ step → event_at events t key ≡ Some down → ((s : ℕ) → t < s → s ≤ step → event_at events s key ≡ None) → is_down events key step ≡ down
is_down-last events key t zero down l there none =
    ap (λ o. unwrap_or o false) (ap (λ s. event_at events s key) (omega arith) ∙ there)
is_down-last events key t (suc step) down l there none =
    elim (cases_eq t (suc step)) [
      | inl e ↦ ap (λ o. unwrap_or o (is_down events key step)) (ap (λ s. event_at events s key) (sym e) ∙ there)
      | inr n ↦ ap (λ o. unwrap_or o (is_down events key step)) (none (suc step) (omega arith) (omega arith))
          ∙ is_down-last events key t step down (omega arith) there (λ s lt ls. none s lt (omega arith))
    ]

-- the moments of a key up to a step
abbrev moment : ℕ → ℕ → Moment
moment key step = record { key = key; step = step }

pub not_after : (a b : ℕ) → is_gt (nat_cmp a b) ≡ false → a ≤ b
not_after a b h =
    elim (nat_cmp a b) as (λ r. nat_cmp a b ≡ r → is_gt r ≡ false → a ≤ b) [
      | Less ↦ λ p h. (let l : a < b = ranked a b Less (sym p) in omega arith)
      | Equal ↦ λ p h. (let l : a ≡ b = ranked a b Equal (sym p) in omega arith)
      | Greater ↦ λ p h. absurd (false≢true (sym h))
    ] refl h

pub is_not_after : (a b : ℕ) → a ≤ b → is_gt (nat_cmp a b) ≡ false
is_not_after a b l =
    elim (nat_cmp a b) as (λ r. nat_cmp a b ≡ r → is_gt r ≡ false) [
      | Less ↦ λ p. refl
      | Equal ↦ λ p. refl
      | Greater ↦ λ p. (let g : b < a = ranked a b Greater (sym p) in absurd (omega arith))
    ] refl

same_key : (key : ℕ) → nat_cmp key key ≡ Equal
same_key key = sym (nat_cmp_is key key Equal refl)

from_then : (key a b : ℕ) → moment_cmp (moment key a) (moment key b) ≡ nat_cmp a b
from_then key a b = ap (λ r. ordering_then r (nat_cmp a b)) (same_key key)

key_within : (key from step : ℕ) (m : Moment) → is_gt (moment_cmp (moment key from) m) ≡ false → is_gt (moment_cmp m (moment key step)) ≡ false → m.key ≡ key
key_within key from step m low high =
    elim (nat_cmp key m.key) as (λ r. nat_cmp key m.key ≡ r → is_gt (ordering_then r (nat_cmp from m.step)) ≡ false → m.key ≡ key) [
      | Less ↦ λ p h. (
          let l : key < m.key = ranked key m.key Less (sym p) in
          let above : nat_cmp m.key key ≡ Greater = sym (nat_cmp_is m.key key Greater l) in
          absurd (false≢true (sym high ∙ ap (λ r. is_gt (ordering_then r (nat_cmp m.step step))) above)))
      | Equal ↦ λ p h. sym (ranked key m.key Equal (sym p))
      | Greater ↦ λ p h. absurd (false≢true (sym h))
    ] refl low

step_within : (key step : ℕ) (m : Moment) → m.key ≡ key → is_gt (moment_cmp m (moment key step)) ≡ false → m.step ≤ step
step_within key step m e high =
    not_after m.step step (ap (λ r. is_gt (ordering_then r (nat_cmp m.step step))) (nat_cmp_is m.key key Equal e) ∙ high)

-- the last entry of the key up to the step decides
pub is_down-from_last : (es : List (Moment × Bool)) (key step : ℕ) (m : Moment) (down : Bool)
    → is_gt (moment_cmp (moment key 0) m) ≡ false → is_gt (moment_cmp m (moment key step)) ≡ false
    → lookup (is_at (moment_cmp m)) es ≡ Some down
    → ((q : Moment) → is_gt (moment_cmp (moment key 0) q) ≡ false → is_gt (moment_cmp q (moment key step)) ≡ false → IsSome (lookup (is_at (moment_cmp q)) es) → is_lt (moment_cmp m q) ≡ false)
    → is_down (finmap.from_entries es) key step ≡ down
is_down-from_last es key step m down low high there last =
    let e : m.key ≡ key = key_within key 0 step m low high in
    let l : m.step ≤ step = step_within key step m e high in
    let same : m ≡ moment key m.step = ap (λ k. moment k m.step) e in
    is_down-last (finmap.from_entries es) key m.step step down l
    (get_moment es (moment key m.step) ∙ ap (λ q. lookup (is_at (moment_cmp q)) es) (sym same) ∙ there)
    (λ s lt ls. get_moment es (moment key s) ∙ none_later s lt ls)
  where
    none_later : (s : ℕ) → m.step < s → s ≤ step → lookup (is_at (moment_cmp (moment key s))) es ≡ None
    none_later s lt ls = elim (lookup (is_at (moment_cmp (moment key s))) es) as (λ o. lookup (is_at (moment_cmp (moment key s))) es ≡ o → o ≡ None) [
      | None ↦ λ p. refl
      | Some x ↦ λ p. (
          let e : m.key ≡ key = key_within key 0 step m low high in
          let before : moment_cmp m (moment key s) ≡ Less = ap (λ r. ordering_then r (nat_cmp m.step s)) (sym (nat_cmp_is m.key key Equal e)) ∙ sym (nat_cmp_is m.step s Less lt) in
          let not_before = last (moment key s) (ap is_gt (from_then key 0 s) ∙ is_not_after 0 s (omega arith)) (ap is_gt (from_then key s step) ∙ is_not_after s step ls) (subst (λ o. IsSome o) (sym p) refl) in
          absurd (false≢true (sym not_before ∙ ap is_lt before)))
    ] refl

-- if there is no entry of the key up to the step, the key is up
pub is_down-from_none : (es : List (Moment × Bool)) (key step : ℕ)
    → ((q : Moment) → is_gt (moment_cmp (moment key 0) q) ≡ false → is_gt (moment_cmp q (moment key step)) ≡ false → lookup (is_at (moment_cmp q)) es ≡ None)
    → is_down (finmap.from_entries es) key step ≡ false
is_down-from_none es key step none =
    is_down-none (finmap.from_entries es) key step (λ s l. get_moment es (moment key s)
    ∙ none (moment key s) (ap is_gt (from_then key 0 s) ∙ is_not_after 0 s (omega arith)) (ap is_gt (from_then key s step) ∙ is_not_after s step l))

-- if there is no event between two steps, the key stays down or up
pub is_down-stays : (events : Events) (key from to : ℕ) → from ≤ to → ((s : ℕ) → from < s → s ≤ to → event_at events s key ≡ None) → is_down events key to ≡ is_down events key from
is_down-stays events key from zero l none = let same : 0 ≡ from = omega arith in ap (is_down events key) same
is_down-stays events key from (suc to) l none =
    elim (cases_eq from (suc to)) [
      | inl e ↦ ap (is_down events key) (sym e)
      | inr n ↦ ap (λ o. unwrap_or o (is_down events key to)) (none (suc to) (omega arith) (omega arith))
          ∙ is_down-stays events key from to (omega arith) (λ s lf ls. none s lf (omega arith))
    ]
