-- Facts that stay true when the kept states change.
use Rattle.std.proofs.Common.{◌≡◌, ℕ, zero, suc, ◌+◌, ◌-◌, ◌^◌, ◌<◌, ◌≤◌, ◌⊎◌, Bool, true, false, Option, Some, None, List, length, slice_index, is_some, ◌||◌, refl, sym, ap, subst, ◌∙◌, inl, inr, ⊎_elim, arith}
use Rattle.std.proofs.Common.{◌≢◌, get_or, set, [], ◌∷◌, ◌++◌}
use Rattle.std.proofs.lemmas.Bool.{cases_eq, cases_lt}
use Rattle.std.proofs.lemmas.List.{get_or_past, get_or-set_same, get_or-set_other, get_or_append_left, length-append}
use Rattle.std.proofs.Math.Seq.{get_or-append_seam}
use Rattle.std.proofs.Common.{◌==◌}
use Rattle.std.proofs.lemmas.Nat.Bits.{bit_at_above}
use Rattle.chip_machine.specs.Choices.{IsChoice}
use Rattle.chip_machine.specs.Forgotten.{AreWithin, IsUnneeded}
use Rattle.chip_machine.specs.Relevant.{Alike}
use Rattle.chip_machine.specs.State.{State}
use Rattle.chip_machine.specs.Step.{is_key_down, step_of}
use Rattle.chip_explore.specs.declared.members.Members.{Members}
use Rattle.chip_explore.specs.declared.setting.Setting.{Setting}
use Rattle.chip_explore.specs.declared.ways.Reading.{Reading}
use Rattle.chip_explore.specs.Executed.{is_among, is_at_one}
use Rattle.chip_explore.specs.inner.Cover.{Adds, GoesUpTo, phase, tick_at, View, Grows, IsFine, Moves, forgotten_at, Joins, SafeFor, Safe, IsTaken, Extends, GoesTo, GoesBy, HasChoices, HasValues, Holds, IsAt, Goes, Leads, LeadsAs, LeadsBy, Ends, view_of}
use Rattle.chip_explore.specs.inner.Delays.{timed_register}
use Rattle.chip_explore.specs.inner.Known.{are_goals_known}
use Rattle.chip_explore.proofs.Alike.{alike_through, alike_within, within_both}

-- a fine state stays fine when more addresses are noted
or_more : (stopped early late : Bool) → (early ≡ true → late ≡ true) → (stopped || early) ≡ true → (stopped || late) ≡ true
or_more true early late more h = refl
or_more false early late more h = more h

pub still_noted : (early late : List Bool) → Grows early late → (s : State) → is_at_one early s ≡ true → is_at_one late s ≡ true
still_noted early late more s noted =
    or_more (is_some s.core.stopped) (is_among early s.core.pc) (is_among late s.core.pc) (more s.core.pc) noted

module _ (p : Setting) (early late : List Bool) (more : Grows early late) (f : ℕ) (s : State) where
  pub still_fine : IsFine p early f s → IsFine p late f s
  still_fine fine =
      record { avoided = fine.avoided; noted = still_noted early late more s fine.noted; known = fine.known; ended = fine.ended }

  pub still_moves : Moves p early f s → Moves p late f s
  still_moves moves = record { fine = still_fine moves.fine; same = moves.same; untimed = moves.untimed; drawn = moves.drawn }

module _ (p : Setting) (v w : View) (more : Extends p v w) where
  pub still_at : (place m : ℕ) (s : State) (t : ℕ) → IsAt p v place m s t → IsAt p w place m s t
  still_at place m s t at =
      let kept = at.kept in
      let count = more.count in
      record {
        kept = omega arith;
        phased = more.phased place kept ∙ at.phased;
        within = rw (more.forgotten place kept) at.within;
        alike = rw (more.forgotten place kept, more.member place kept) at.alike;
      }

  still_joins : (m : ℕ) (s : State) (t : ℕ) → Joins p v m s t → Joins p w m s t
  still_joins m s t j =
      let early = j.early in
      let earlier = more.early j.place j.at.kept in
      record { place = j.place; early = omega arith; at = still_at j.place m s t j.at }

  still_safe_for : (moves m : ℕ) (s : State) (t : ℕ) → SafeFor p v moves m s t → SafeFor p w moves m s t
  still_safe_for zero m s t safe =
      let lower = more.limit in
      ⊎_elim
      (λ (past : v.limit ≤ t). inl (omega arith))
      (λ (kept : IsFine p v.executed m s × ((is_some s.core.stopped ≡ true) ⊎ Joins p v m s t)).
      inr (still_fine p v.executed w.executed more.executed m s kept.0, ⊎_elim (λ (halted : is_some s.core.stopped ≡ true). inl halted) (λ (joins : Joins p v m s t). inr (still_joins m s t joins)) kept.1))
      safe
  still_safe_for (suc k) m s t safe =
      (still_moves p v.executed w.executed more.executed m s safe.0, safe.1, (safe.2.0, safe.2.1, still_safe_for k safe.2.0 (step_of s 0 (tick_at p t)) (t + 1) safe.2.2))

  pub still_safe : (m : ℕ) (s : State) (t : ℕ) → Safe p v m s t → Safe p w m s t
  still_safe m s t safe = record { moves = safe.moves; few = safe.few; path = still_safe_for safe.moves m s t safe.path }

  pub still_goes : (m : ℕ) (s next : State) (t : ℕ) → GoesTo p v m s next t → GoesTo p w m s next t
  still_goes m s next t goes = record { after = goes.after; is_after = goes.is_after; safe = still_safe goes.after next (t + 1) goes.safe }

  pub still_goes_on : (register : Option ℕ) (m : ℕ) (s : State) (t : ℕ) → GoesBy register p v m s t → GoesBy register p w m s t
  still_goes_on None m s t on = λ keys within. still_goes m s _ t (on keys within)
  still_goes_on (Some register) m s t on = λ value low. still_goes m s _ t (on value low)

pub extends_more : (p : Setting) (u v w : View) → Extends p u v → Extends p v w → Extends p u w
extends_more p u v w a b =
    let first = a.limit in
    let second = b.limit in
    let count = a.count in
    let counts = b.count in
    record {
      limit = omega arith;
      count = omega arith;
      member = λ j l. b.member j (omega arith) ∙ a.member j l;
      forgotten = λ j l. b.forgotten j (omega arith) ∙ a.forgotten j l;
      early = λ j l. let one = a.early j l in let two = b.early j (omega arith) in omega arith;
      phased = λ j l. b.phased j (omega arith) ∙ a.phased j l;
      executed = λ pc h. b.executed pc (a.executed pc h);
    }

-- a state is taken up once each of its ways was followed
taken_by : (p : Setting) (v w : View) → Extends p v w → (place step : ℕ) → place < length v.steps → (register : Option ℕ)
    → timed_register p (v.member place) ≡ register → (v.member place).core.draws < 2 ^ 64 - 1
    → are_goals_known p (forgotten_at v place) (v.member place) ≡ true → IsUnneeded (forgotten_at v place) (v.member place)
    → GoesBy register p w (forgotten_at v place) (v.member place) step → slice_index w.steps place ≡ step → IsTaken p w place
taken_by p v w more place step kept register is drawn asked unneeded on same =
    let member = more.member place kept in
    let forgotten = more.forgotten place kept in
    record {
      drawn = rw member drawn;
      asked = rw (forgotten, member) asked;
      unneeded = rw (forgotten, member) unneeded;
      goes_on = rw (forgotten, member, same, is) on;
    }

-- a closed place stays taken up as long as its step stays the same
still_taken : (p : Setting) (v w : View) → Extends p v w → (j : ℕ) → j < length v.steps → slice_index w.steps j ≡ slice_index v.steps j → IsTaken p v j → IsTaken p w j
still_taken p v w more j kept same taken =
    taken_by p v w more j _ kept _ refl taken.drawn taken.asked taken.unneeded (still_goes_on p v w more (timed_register p (v.member j)) _ _ _ taken.goes_on) same

-- flags and steps by their places
pub closed_inside : (closed : List Bool) (j : ℕ) → get_or closed j false ≡ true → j < length closed
closed_inside closed j h =
    ⊎_elim (λ (inside : j < length closed). inside)
    (λ (past : length closed ≤ j). let up : get_or closed j false ≡ false = get_or_past closed j false past in absurd (cc))
    (cases_lt j (length closed))

pub closed_set : (closed : List Bool) (place j : ℕ) (flag : Bool) → place < length closed → get_or (set closed place flag) j false ≡ true
    → ((j ≡ place) × (flag ≡ true)) ⊎ ((j ≢ place) × (get_or closed j false ≡ true))
closed_set closed place j flag kept h =
    ⊎_elim
    (λ (here : j ≡ place). inl (here, sym (get_or-set_same closed place flag false kept) ∙ ap (λ (i : ℕ). get_or (set closed place flag) i false) (sym here) ∙ h))
    (λ (other : j ≢ place). inr (other, sym (get_or-set_other closed place j flag false other) ∙ h))
    (cases_eq j place)

last_up : (closed : List Bool) (j : ℕ) → get_or (closed ++ false ∷ []) j false ≡ get_or closed j false
last_up closed j =
    ⊎_elim
    (λ (inside : j < length closed). get_or_append_left closed (false ∷ []) false j inside)
    (λ (past : length closed ≤ j).
    ⊎_elim
    (λ (here : j ≡ length closed).
    ap (λ (i : ℕ). get_or (closed ++ false ∷ []) i false) here ∙ get_or-append_seam closed false [] false ∙ sym (get_or_past closed j false past))
    (λ (other : j ≢ length closed).
    let longer : length (closed ++ false ∷ []) ≡ length closed + 1 = length-append closed (false ∷ []) in
    get_or_past (closed ++ false ∷ []) j false (omega arith) ∙ sym (get_or_past closed j false past))
    (cases_eq j (length closed)))
    (cases_lt j (length closed))

pub closed_pushed : (closed : List Bool) (j : ℕ) → get_or (closed ++ false ∷ []) j false ≡ true → get_or closed j false ≡ true
closed_pushed closed j h = sym (last_up closed j) ∙ h

pub set_early : (steps : List ℕ) (place step j : ℕ) → place < length steps → step ≤ get_or steps place 0 → get_or (set steps place step) j 0 ≤ get_or steps j 0
set_early steps place step j kept early =
    ⊎_elim
    (λ (here : j ≡ place).
    let now : get_or (set steps place step) j 0 ≡ step = ap (λ (i : ℕ). get_or (set steps place step) i 0) here ∙ get_or-set_same steps place step 0 kept in
    let was : get_or steps j 0 ≡ get_or steps place 0 = ap (λ (i : ℕ). get_or steps i 0) here in
    omega arith)
    (λ (other : j ≢ place).
    let now : get_or (set steps place step) j 0 ≡ get_or steps j 0 = get_or-set_other steps place j step 0 other in
    omega arith)
    (cases_eq j place)

pub set_phased : (p : Setting) (steps : List ℕ) (place step j : ℕ) → place < length steps → phase p (get_or steps place 0) ≡ phase p step → phase p (get_or (set steps place step) j 0) ≡ phase p (get_or steps j 0)
set_phased p steps place step j kept phased =
    ⊎_elim
    (λ (here : j ≡ place).
    ap (λ (i : ℕ). phase p (get_or (set steps place step) i 0)) here
    ∙ ap (phase p) (get_or-set_same steps place step 0 kept)
    ∙ sym phased
    ∙ ap (λ (i : ℕ). phase p (get_or steps i 0)) (sym here))
    (λ (other : j ≢ place). ap (phase p) (get_or-set_other steps place j step 0 other))
    (cases_eq j place)

-- a call preserves `Holds` if each place that is closed after the call was closed before it with
-- the same step, or is taken up
pub goes : (p : Setting) (m n : Members) → Holds p m → n.start ≡ m.start → Extends p (view_of m) (view_of n)
    → length n.states.items ≡ length n.steps.items → length n.forgotten.items ≡ length n.steps.items → length n.closed.items ≡ length n.steps.items
    → ((j : ℕ) → get_or n.closed.items j false ≡ true → IsTaken p (view_of n) j ⊎ ((get_or m.closed.items j false ≡ true) × (slice_index n.steps.items j ≡ slice_index m.steps.items j)))
    → Goes p m n
goes p m n holds start more states forgotten closed same =
    record {
      start = start;
      extends = more;
      holds = record {
        rate = holds.rate;
        states = states;
        forgotten = forgotten;
        closed = closed;
        taken = λ j h.
            ⊎_elim (λ (taken : IsTaken p (view_of n) j). taken)
            (λ (was : (get_or m.closed.items j false ≡ true) × (slice_index n.steps.items j ≡ slice_index m.steps.items j)).
            let inside : j < length m.closed.items = closed_inside m.closed.items j was.0 in
            let count = holds.closed in
            still_taken p (view_of m) (view_of n) more j (omega arith) was.1 (holds.taken j was.0))
            (same j h);
      };
    }

-- a view with equal states and steps, whose search is about no more steps and saw no fewer addresses
pub extends_as : (p : Setting) (m : Members) (limit : ℕ) (executed : List Bool) → limit ≤ m.limit → Grows m.executed executed
    → Extends p (view_of m) (view_of (record m { limit = limit; executed = executed }))
extends_as p m limit executed low grows =
    record { limit = low; count = omega arith; member = λ j l. refl; forgotten = λ j l. refl; early = λ j l. omega arith; phased = λ j l. refl; executed = grows }

pub goes_as : (p : Setting) (m : Members) → Holds p m → (limit : ℕ) (executed : List Bool) → limit ≤ m.limit → Grows m.executed executed
    → Goes p m (record m { limit = limit; executed = executed })
goes_as p m holds limit executed low grows =
    goes p m _ holds refl (extends_as p m limit executed low grows) holds.states holds.forgotten holds.closed (λ j h. inr (h, refl))

pub goes_noted : (p : Setting) (m : Members) → Holds p m → (executed : List Bool) → Grows m.executed executed → Goes p m (record m { executed = executed })
goes_noted p m holds executed grows = goes_as p m holds m.limit executed (omega arith) grows

-- facts about a state in which forgotten bytes have other values
pub at_erased : (p : Setting) (v : View) (place f g : ℕ) (s erased : State) (t : ℕ) → AreWithin f g → Alike g erased s → IsAt p v place g erased t → IsAt p v place f s t
at_erased p v place f g s erased t within same at =
    let all = forgotten_at v place in
    record {
      kept = at.kept;
      phased = at.phased;
      within = within_both f g all within at.within;
      alike = alike_through all (v.member place) erased at.alike s (alike_within g erased s same all at.within);
    }

pub ends_erased : (p : Setting) (m n : Members) → Goes p m n → (f g : ℕ) (s erased : State) (t : ℕ) → IsFine p m.executed f s → AreWithin f g → Alike g erased s
    → (n.limit ≤ t) ⊎ Joins p (view_of n) g erased t → Ends p (view_of n) f s t
ends_erased p m n more f g s erased t fine within same ends =
    elim ends [
      | inl past ↦ inl past
      | inr joins ↦ (
          let at = at_erased p (view_of n) joins.place f g s erased t within same joins.at in
          inr (still_fine p m.executed n.executed more.extends.executed f s fine, inr (record { place = joins.place; early = joins.early; at = at })))
    ]

pub goes_more : (p : Setting) (l m n : Members) → Goes p l m → Goes p m n → Goes p l n
goes_more p l m n one two = record { start = two.start ∙ one.start; extends = extends_more p (view_of l) (view_of m) (view_of n) one.extends two.extends; holds = two.holds }

pub goes_up_to : (p : Setting) (l m n : Members) (most : ℕ) → Goes p l m → Goes p m n → length n.steps.items ≤ most → GoesUpTo p l n most
goes_up_to p l m n most one two few = record { goes = goes_more p l m n one two; few = few }

pub adds_more : (p : Setting) (l m n : Members) (a b : ℕ) → Adds p l m a → Adds p m n b → Adds p l n (a + b)
adds_more p l m n a b one two = goes_up_to p l m n _ one.goes two.goes (omega arith)

-- a step of a kept state, stated with the place of the state in an earlier view
pub leads_before : (next : State → State) (p : Setting) (l m n : Members) → Goes p l m → (place step : ℕ) → place < length l.steps.items
    → LeadsBy next p m n place step → LeadsBy next p l n place step
leads_before next p l m n one place step kept leads = rw (← one.extends.forgotten place kept, ← one.extends.member place kept) leads

pub leads_after : (next : State → State) (p : Setting) (l m n : Members) → Goes p m n → (place step : ℕ) → LeadsBy next p l m place step → LeadsBy next p l n place step
leads_after next p l m n two place step leads = still_goes p (view_of m) (view_of n) two.extends _ _ _ step leads

-- each choice of keys
module _ (p : Setting) (l m n : Members) (one : Goes p l m) (two : Goes p m n) (place step choices : ℕ) (kept : place < length l.steps.items)
    (has : HasChoices p (forgotten_at (view_of l) place) ((view_of l).member place) choices)
    (none : Leads p l m place step 0)
    (each : (key : ℕ) → key < 16 → is_key_down choices key ≡ true → Leads p m n place step (2 ^ key)) where
  by_choice : (keys : ℕ) → IsChoice choices keys → Leads p l n place step keys
  by_choice keys choice =
      ⊎_elim
      (λ (up : keys ≡ 0). subst (λ (k : ℕ). Leads p l n place step k) (sym up) (leads_after (λ s. step_of s 0 (tick_at p step)) p l m n two place step none))
      (λ (down : (k : ℕ) × (is_key_down choices k ≡ true) × (keys ≡ 2 ^ k)).
      let there : is_key_down choices down.0 ≡ true = down.1 in
      let below : down.0 < 16 =
      ⊎_elim (λ (inside : down.0 < 16). inside)
      (λ (past : 16 ≤ down.0). let dark : is_key_down choices down.0 ≡ false = ap (λ b. b == 1) (bit_at_above choices 16 down.0 has.few past) in absurd (cc))
      (cases_lt down.0 16) in
      subst (λ (k : ℕ). Leads p l n place step k) (sym down.2)
      (leads_before (λ s. step_of s (2 ^ down.0) (tick_at p step)) p l m n one place step kept (each down.0 below there)))
      choice

  on_and_on : GoesBy None p (view_of n) (forgotten_at (view_of l) place) ((view_of l).member place) step
  on_and_on keys within =
      let r = has.all keys within in
      subst (λ (next : State). GoesTo p (view_of n) (forgotten_at (view_of l) place) ((view_of l).member place) next step) (sym (r.2 (tick_at p step))) (by_choice r.0 r.1)

  pub all_taken : slice_index n.steps.items place ≡ step → IsTaken p (view_of n) place
  all_taken same =
      taken_by p (view_of l) (view_of n) (goes_more p l m n one two).extends place step kept None has.untimed has.drawn has.asked has.unneeded on_and_on same

-- each value of the delay timer
pub all_read : (p : Setting) (l n : Members) → Goes p l n → (place step : ℕ) → place < length l.steps.items → (read : Reading)
    → HasValues p (forgotten_at (view_of l) place) ((view_of l).member place) read
    → ((value : ℕ) → value ≤ read.bound → LeadsAs p l n place step value)
    → slice_index n.steps.items place ≡ step → IsTaken p (view_of n) place
all_read p l n more place step kept read has each same =
    taken_by p (view_of l) (view_of n) more.extends place step kept (Some read.register) has.timed has.drawn has.asked has.unneeded
    (λ value low. each value (subst (λ (bound : ℕ). value ≤ bound) has.bound low))
    same

pub has_values_in : (p : Setting) (l m : Members) → Goes p l m → (place : ℕ) → place < length l.steps.items → (read : Reading)
    → HasValues p (forgotten_at (view_of l) place) ((view_of l).member place) read
    → HasValues p (forgotten_at (view_of m) place) ((view_of m).member place) read
has_values_in p l m more place kept read has =
    rw (more.extends.forgotten place kept, more.extends.member place kept) has
