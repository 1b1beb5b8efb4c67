-- Facts that hold from the start on, and from each state that was taken up: no key script meets the
-- target there, or executes a step at an address that isn't noted.
use Rattle.std.proofs.Common.{◌≡◌, ℕ, zero, suc, ◌+◌, ◌-◌, ◌*◌, ◌/◌, ◌%◌, ◌^◌, ◌<◌, ◌≤◌, ◌==◌, ◌⊎◌, ◌||◌, ◌&&◌, not, Bool, true, false, Option, Some, None, length, slice_index, is_some, refl, sym, ap, subst, ◌∙◌, inl, inr, ⊎_elim, if◌then◌else◌, arith, add-one}
use Rattle.std.proofs.Math.Nat.{mod-add-div', add-mul-mod_self_right}
use Rattle.std.proofs.lemmas.Bool.{cases_lt, eqb-true}
use Rattle.std.proofs.lemmas.Nat.Bits.{bit_at-zero}
use Rattle.chip_machine.specs.Block.{ticks}
use Rattle.chip_machine.specs.Choices.{IsChoice, IsWithin, Represents}
use Rattle.chip_machine.specs.Forgotten.{IsUnneeded, IsForgottenAfter, next_instr}
use Rattle.chip_machine.specs.Relevant.{Alike, AlikeSteps, DrawsGrow}
use Rattle.chip_machine.specs.State.{Core, State, IsProper}
use Rattle.chip_machine.specs.Step.{effect_at, is_key_down, next, perform, settle, step_of, with_reg}
use Rattle.chip_replay.specs.Run.{run}
use Rattle.chip_explore.specs.Executed.{StaysAmong, is_among, is_at_one}
use Rattle.chip_explore.specs.Scripts.{Avoids, IsScript}
use Rattle.chip_explore.specs.Speeds.{AvoidsAtAnySpeed, run_ticking}
use Rattle.chip_explore.specs.Target.{met_in}
use Rattle.chip_explore.proofs.Asked.{goals_known, goals_same, met_same}
use Rattle.chip_explore.proofs.Halted.{goals_stopped}
use Rattle.chip_explore.proofs.Alike.{same_stop, through_member, ticks_same}
use Rattle.chip_explore.proofs.Delays.{Delayed, after_delayed, alike_silent, delayed_step, read_step, ticked_step, timed_reads, unneeded_delayed, within_bound, with_timers}
use Rattle.chip_explore.specs.declared.limits.TheConstants.{MOST_QUIET_STEPS}
use Rattle.chip_explore.specs.declared.setting.Setting.{Setting}
use Rattle.chip_explore.specs.inner.Cover.{meets_goals, phase, tick_at, View, IsFine, forgotten_at, Joins, SafeFor, Safe, GoesBy, GoesTo, IsTaken}
use Rattle.chip_explore.specs.inner.Delays.{AlikeTicks, bound_after, delay_register, read_as, register_read, timed_register, with_delay}
use Rattle.chip_explore.specs.inner.Known.{are_goals_known}
use Rattle.chip_explore.specs.inner.Told.{Covers}

-- a choice of no keys contains no key
no_choice : (one : ℕ) → IsChoice 0 one → one ≡ 0
no_choice one choice =
    ⊎_elim (λ (none : one ≡ 0). none)
    (λ (some : (k : ℕ) × (is_key_down 0 k ≡ true) × (one ≡ 2 ^ k)).
    let up : is_key_down 0 some.0 ≡ false = ap (λ b. b == 1) (bit_at-zero some.0) in
    let down : is_key_down 0 some.0 ≡ true = some.1 in
    absurd (cc))
    choice

pub same_as_none : (allowed : ℕ) (s : State) → Represents allowed 0 s → (keys : ℕ) → IsWithin allowed keys → (tick : Bool) → step_of s keys tick ≡ step_of s 0 tick
same_as_none allowed s acts keys within tick =
    let r = acts keys within in
    r.2 tick ∙ ap (λ (k : ℕ). step_of s k tick) (no_choice r.0 r.1)

stays_by : (stopped : Bool) (s : State) (keys : ℕ) (tick : Bool) → stopped ≡ true → (if stopped then s else settle tick s (perform keys s (effect_at s))) ≡ s
stays_by true s keys tick h = refl
stays_by false s keys tick h = absurd (cc)

pub stays : (s : State) (keys : ℕ) (tick : Bool) → is_some s.core.stopped ≡ true → step_of s keys tick ≡ s
unfolding step_of
stays s keys tick h = stays_by (is_some s.core.stopped) s keys tick h

-- ticks, given the part of the step's number that decides them
one_more : (n r : ℕ) → (n + 1) % r ≡ (n % r + 1) % r
one_more n r =
    let whole : n + 1 ≡ (n % r + 1) + n / r * r = omega (arith, mod-add-div' n r) in
    ap (λ m. m % r) whole ∙ add-mul-mod_self_right (n % r + 1) (n / r) r

pub rest_more : (rate u t : ℕ) → u % rate ≡ t % rate → (u + 1) % rate ≡ (t + 1) % rate
rest_more rate u t h = one_more u rate ∙ ap (λ m. (m + 1) % rate) h ∙ sym (one_more t rate)

pub phase_by : (free : Bool) (rate u t : ℕ) → (if free then 0 else u % rate) ≡ (if free then 0 else t % rate) → (if free then 0 else (u + 1) % rate) ≡ (if free then 0 else (t + 1) % rate)
phase_by true rate u t h = refl
phase_by false rate u t h = rest_more rate u t h

-- a run at the rate is the run with the ticks of that rate
pub ticking_run : (rate : ℕ) (held : ℕ → ℕ) (start : State) (t : ℕ) → run step_of rate held start t ≡ run_ticking (ticks rate) held start t
ticking_run rate held start zero = refl
ticking_run rate held start (suc t) = ap (λ (s : State). step_of s (held t) (ticks rate t)) (ticking_run rate held start t)

-- the timers tick in both steps or in neither, if these parts are equal
pub same_tick : (free : Bool) (rate u t : ℕ) (tick : Bool) → (free ≡ false → tick ≡ ticks rate t) → (if free then 0 else u % rate) ≡ (if free then 0 else t % rate)
    → (if free then false else ticks rate u) ≡ (if free then false else tick)
same_tick true rate u t tick at_rate phased = refl
same_tick false rate u t tick at_rate phased = ap (λ (rest : ℕ). rest == 0) (rest_more rate u t phased) ∙ sym (at_rate refl)

module _ (alike : AlikeSteps) (grow : DrawsGrow) where
  -- no step draws more than one random byte
  pub drawn : (ticking : ℕ → Bool) (held : ℕ → ℕ) (start : State) → start.core.draws ≡ 0 → (t : ℕ) → (run_ticking ticking held start t).core.draws ≤ t
  drawn ticking held start fresh zero = omega arith
  drawn ticking held start fresh (suc t) =
      let more = grow (run_ticking ticking held start t) (held t) (ticking t) in
      let few = drawn ticking held start fresh t in
      let count = add-one t in
      omega arith

  -- one step of two states; the first is a state of the search
  module _ (p : Setting) (f after : ℕ) (a s : State) (keys : ℕ) (tick : Bool) (unneeded : IsUnneeded f a) (low_a : a.core.draws < 2 ^ 64 - 1) (low_s : s.core.draws < 2 ^ 64 - 1) where
    -- ticks as in the run
    rated : p.free ≡ false → (ours : Bool) → ours ≡ tick → AlikeTicks p f a s → IsForgottenAfter f a (step_of a keys ours).core.pc after
        → AlikeTicks p after (step_of a keys ours) (step_of s keys tick)
    rated at_rate ours is near is_after =
        let same : Alike f a s = subst (λ (d : ℕ). Alike f (with_delay d a) s) (near.exact at_rate) near.alike in
        record {
          delay = (step_of a keys ours).core.delay;
          most = omega arith;
          exact = λ _. refl;
          alike = subst (λ (t : Bool). Alike after (step_of a keys ours) (step_of s keys t)) is (alike f after a s keys ours same unneeded is_after low_a low_s);
        }

    -- free ticks: after a step without a tick, made from the state with the delay timer of the run
    slowed : p.free ≡ true → (d : ℕ) → d ≤ a.core.delay → Alike f (with_delay d a) s → (next : State) → Delayed next (step_of (with_delay d a) keys false)
        → IsForgottenAfter f a next.core.pc after → AlikeTicks p after next (step_of s keys tick)
    slowed free d low same next delayed is_after =
        let t = ticked_step (with_delay d a) keys tick in
        let least = delayed.most in
        let less : t.delay ≤ (step_of (with_delay d a) keys false).core.delay = t.most in
        let now : (step_of (with_delay d a) keys false).core.delay ≡ delayed.delay = ap (λ (b : State). b.core.delay) delayed.is in
        let whole : step_of (with_delay d a) keys tick ≡ with_timers t.delay t.sound next = t.is ∙ ap (with_timers t.delay t.sound) delayed.is in
        let there : next.core.pc ≡ (step_of (with_delay d a) keys tick).core.pc = sym (ap (λ (b : State). b.core.pc) whole) in
        let made : Alike after (step_of (with_delay d a) keys tick) (step_of s keys tick) =
        alike f after (with_delay d a) s keys tick same (unneeded_delayed a d low f unneeded)
        (subst (λ (pc : ℕ). IsForgottenAfter f (with_delay d a) pc after) there (after_delayed a d low f next.core.pc after is_after)) low_a low_s in
        record {
          delay = t.delay;
          most = omega arith;
          exact = λ at_rate. absurd (cc);
          alike = alike_silent after t.delay t.sound next _ (subst (λ (b : State). Alike after b (step_of s keys tick)) whole made);
        }

    -- a step that tells no values of the delay timer apart
    pub untimed : (free : Bool) → p.free ≡ free → (at_zero : Bool) → (a.core.delay == 0) ≡ at_zero → (if free && not at_zero then delay_register a else None) ≡ None
        → (ours : Bool) → ours ≡ (if free then false else tick) → AlikeTicks p f a s → IsForgottenAfter f a (step_of a keys ours).core.pc after
        → AlikeTicks p after (step_of a keys ours) (step_of s keys tick)
    untimed false is at_zero zero_is u ours same near is_after = rated is ours same near is_after
    untimed true is true zero_is u ours same near is_after =
        let bound : a.core.delay ≡ 0 = eqb-true a.core.delay 0 zero_is in
        let most = near.most in
        let d : near.delay ≡ a.core.delay = omega arith in
        subst (λ (t : Bool). AlikeTicks p after (step_of a keys t) (step_of s keys tick)) (sym same)
        (slowed is a.core.delay (omega arith) (subst (λ (d : ℕ). Alike f (with_delay d a) s) d near.alike) (step_of a keys false)
        (record { delay = (step_of a keys false).core.delay; most = omega arith; is = refl })
        (subst (λ (t : Bool). IsForgottenAfter f a (step_of a keys t).core.pc after) same is_after))
    untimed true is false zero_is u ours same near is_after =
        subst (λ (t : Bool). AlikeTicks p after (step_of a keys t) (step_of s keys tick)) (sym same)
        (slowed is near.delay near.most near.alike (step_of a keys false) (delayed_step a near.delay near.most keys u)
        (subst (λ (t : Bool). IsForgottenAfter f a (step_of a keys t).core.pc after) same is_after))

    -- a step that tells values of the delay timer apart
    timed : p.free ≡ true → (x : ℕ) → delay_register a ≡ Some x → (near : AlikeTicks p f a s) → IsForgottenAfter f a (read_as near.delay a).core.pc after
        → AlikeTicks p after (read_as near.delay a) (step_of s keys tick)
    timed free x reads near is_after =
        let d = near.delay in
        let bare : State = record a { core = next (with_reg x d (record a.core { delay = d })) } in
        let ours : step_of (with_delay d a) 0 false ≡ bare = read_step (with_delay d a) x 0 reads in
        let theirs : step_of (with_delay d a) keys false ≡ bare = read_step (with_delay d a) x keys reads in
        let same : read_as d a ≡ with_delay (bound_after d a.core.delay) bare = ap (with_delay (bound_after d a.core.delay)) ours in
        subst (λ (b : State). AlikeTicks p after b (step_of s keys tick)) (sym same)
        (slowed free d near.most near.alike (with_delay (bound_after d a.core.delay) bare)
        (record { delay = d; most = within_bound d a.core.delay near.most; is = theirs })
        (subst (λ (b : State). IsForgottenAfter f a b.core.pc after) same is_after))

  module _ (p : Setting) (v : View) where
    fine_of : (moves f : ℕ) (a : State) (u : ℕ) → SafeFor p v moves f a u → u < v.limit → IsFine p v.executed f a
    fine_of zero f a u safe below =
        ⊎_elim (λ (past : v.limit ≤ u). absurd (omega arith)) (λ (kept : IsFine p v.executed f a × ((is_some a.core.stopped ≡ true) ⊎ Joins p v f a u)). kept.0) safe
    fine_of (suc k) f a u safe below = safe.0.fine

    going_read : (stopped : Bool) (a : State) (x : ℕ) → (if stopped then None else register_read (next_instr a)) ≡ Some x → stopped ≡ false
    going_read true a x reads = absurd (cc)
    going_read false a x reads = refl

    -- a machine that has stopped
    abbrev pub Ended : State → State → Type 0
    Ended a s = is_some a.core.stopped ≡ true → meets_goals p a ≡ meets_goals p s

    module _ (f after : ℕ) (a s : State) (near : AlikeTicks p f a s) (ended : Ended a s) where
      pub ended_by : (stopped : Bool) → is_some a.core.stopped ≡ stopped → (is_some a.core.stopped ≡ false → are_goals_known p f a ≡ true)
          → (keys : ℕ) (ours tick : Bool) → AlikeTicks p after (step_of a keys ours) (step_of s keys tick) → Ended (step_of a keys ours) (step_of s keys tick)
      ended_by true is known keys ours tick next stops =
          let halts : is_some s.core.stopped ≡ true = sym (same_stop f (with_delay near.delay a) s near.alike) ∙ is in
          ap (meets_goals p) (stays a keys ours is) ∙ ended is ∙ sym (ap (meets_goals p) (stays s keys tick halts))
      ended_by false is known keys ours tick next stops =
          let going : is_some s.core.stopped ≡ false = sym (same_stop f (with_delay near.delay a) s near.alike) ∙ is in
          let halts : is_some (step_of s keys tick).core.stopped ≡ true = sym (same_stop after (with_delay next.delay (step_of a keys ours)) (step_of s keys tick) next.alike) ∙ stops in
          goals_stopped p.goals.now a keys ours is stops
          ∙ goals_same p f a s near is (known is)
          ∙ sym (goals_stopped p.goals.now s keys tick going halts)

      -- a step that reads the delay timer doesn't stop the machine
      ended_read : (x value : ℕ) (next : State) → delay_register a ≡ Some x → Ended (read_as value a) next
      ended_read x value next reads stops =
          let going : is_some a.core.stopped ≡ false = going_read (is_some a.core.stopped) a x reads in
          let same : is_some (read_as value a).core.stopped ≡ is_some a.core.stopped = ap (λ (b : State). is_some b.core.stopped) (read_step (with_delay value a) x 0 reads) in
          absurd (cc)

    -- a state of a run is like a state from which everything is safe
    pub record Near (s : State) (t : ℕ) : Type 0 where
      pub state : State
      pub at : ℕ
      pub moves : ℕ
      pub few : moves ≤ MOST_QUIET_STEPS
      pub forgotten : ℕ
      pub early : at ≤ t
      pub phased : phase p at ≡ phase p t
      pub same : AlikeTicks p forgotten state s
      pub ended : Ended state s
      pub safe : SafeFor p v moves forgotten state at

    -- the ticks of the run: if the ticks aren't free, they are at the rate
    module _ (ticking : ℕ → Bool) (at_rate : p.free ≡ false → (t : ℕ) → ticking t ≡ ticks p.rate t)
        (n : ℕ) (within_limit : n < v.limit) (taken : (j : ℕ) → j < length v.steps → slice_index v.steps j < n → IsTaken p v j) where
      module _ (s : State) (t keys : ℕ) (before : t < n) (within : IsWithin p.allowed keys) (low : s.core.draws < 2 ^ 64 - 1) where
        abbrev Later : Type 0
        Later = Near (step_of s keys (ticking t)) (t + 1)

        -- after a step of a state that is like this one
        after_by : (a next : State) (f u : ℕ) → u ≤ t → phase p u ≡ phase p t → (to : GoesTo p v f a next u) → AlikeTicks p to.after next (step_of s keys (ticking t))
            → Ended next (step_of s keys (ticking t)) → Later
        after_by a next f u early phased to same ended =
            record {
              state = next;
              at = u + 1;
              moves = to.safe.moves;
              few = to.safe.few;
              forgotten = to.after;
              early = omega arith;
              phased = phase_by p.free p.rate u t phased;
              same = same;
              ended = ended;
              safe = to.safe.path;
            }

        after : (f : ℕ) (a : State) (u : ℕ) → u ≤ t → phase p u ≡ phase p t → AlikeTicks p f a s → Ended a s → (is_some a.core.stopped ≡ false → are_goals_known p f a ≡ true)
            → IsUnneeded f a → a.core.draws < 2 ^ 64 - 1 → timed_register p a ≡ None → GoesTo p v f a (step_of a keys (tick_at p u)) u → Later
        after f a u early phased same ended known unneeded drawn none to =
            let next =
            untimed p f to.after a s keys (ticking t) unneeded drawn low p.free refl (a.core.delay == 0) refl none (tick_at p u)
            (same_tick p.free p.rate u t (ticking t) (λ is. at_rate is t) phased) same to.is_after in
            after_by a (step_of a keys (tick_at p u)) f u early phased to next
            (ended_by f to.after a s same ended (is_some a.core.stopped) refl known keys (tick_at p u) (ticking t) next)

        after_member : (f : ℕ) (a : State) (u : ℕ) → u ≤ t → phase p u ≡ phase p t → AlikeTicks p f a s → Ended a s → are_goals_known p f a ≡ true
            → IsUnneeded f a → a.core.draws < 2 ^ 64 - 1 → (register : Option ℕ) → timed_register p a ≡ register → GoesBy register p v f a u → Later
        after_member f a u early phased same ended known unneeded drawn None none goes_on =
            after f a u early phased same ended (λ _. known) unneeded drawn none (goes_on keys within)
        after_member f a u early phased same ended known unneeded drawn (Some x) reads goes_on =
            let to = goes_on same.delay same.most in
            let told = timed_reads p a x reads in
            after_by a (read_as same.delay a) f u early phased to
            (timed p f to.after a s keys (ticking t) unneeded drawn low told.0 x told.1 same to.is_after)
            (ended_read f to.after a s same ended x same.delay (step_of s keys (ticking t)) told.1)

        -- a state at the end of a sequence of steps
        next_end : (f : ℕ) (a : State) (u : ℕ) → u ≤ t → phase p u ≡ phase p t → AlikeTicks p f a s → Ended a s → IsFine p v.executed f a
            → (stopped : Bool) → is_some a.core.stopped ≡ stopped → (is_some a.core.stopped ≡ true) ⊎ Joins p v f a u → Later
        next_end f a u early phased same ended fine true is ends =
            let stopped = sym (same_stop f (with_delay same.delay a) s same.alike) ∙ is in
            record {
              state = a;
              at = t + 1;
              moves = 0;
              few = omega arith;
              forgotten = f;
              early = omega arith;
              phased = refl;
              same = subst (λ (r : State). AlikeTicks p f a r) (sym (stays s keys (ticking t) stopped)) same;
              ended = subst (λ (r : State). Ended a r) (sym (stays s keys (ticking t) stopped)) ended;
              safe = inr (fine, inl is);
            }
        next_end f a u early phased same ended fine false is ends =
            ⊎_elim
            (λ (halted : is_some a.core.stopped ≡ true). absurd (cc))
            (λ (joins : Joins p v f a u).
            let early_place = joins.early in
            let place = joins.place in
            let member = taken place joins.at.kept (omega arith) in
            let going : is_some (v.member place).core.stopped ≡ false = same_stop (forgotten_at v place) (v.member place) a joins.at.alike ∙ is in
            after_member (forgotten_at v place) (v.member place) (slice_index v.steps place) (omega arith) (joins.at.phased ∙ phased)
            (through_member p f (forgotten_at v place) (v.member place) a s joins.at.within joins.at.alike same)
            (λ stops. absurd (cc))
            member.asked member.unneeded member.drawn (timed_register p (v.member place)) refl member.goes_on)
            ends

        next_by : (moves f : ℕ) (a : State) (u : ℕ) → moves ≤ MOST_QUIET_STEPS → u ≤ t → phase p u ≡ phase p t → AlikeTicks p f a s → Ended a s → SafeFor p v moves f a u → Later
        next_by zero f a u few early phased same ended safe =
            ⊎_elim
            (λ (past : v.limit ≤ u). absurd (omega arith))
            (λ (kept : IsFine p v.executed f a × ((is_some a.core.stopped ≡ true) ⊎ Joins p v f a u)).
            next_end f a u early phased same ended kept.0 (is_some a.core.stopped) refl kept.1)
            safe
        next_by (suc k) f a u few early phased same ended safe =
            let is = same_as_none p.allowed a safe.0.same keys within (tick_at p u) in
            after f a u early phased same ended (λ going. goals_known p f a (safe.0.fine.known going)) safe.1 safe.0.drawn safe.0.untimed
            (subst (λ (b : State). GoesTo p v f a b u) (sym is) (record { after = safe.2.0; is_after = safe.2.1; safe = record { moves = k; few = omega arith; path = safe.2.2 } }))

        onward : Near s t → Later
        onward near = next_by near.moves near.forgotten near.state near.at near.few near.early near.phased near.same near.ended near.safe

      -- a state, at a step of each run from a start
      module _ (base : State) (first : ℕ) (proper : IsProper base) (begun : Safe p v 0 base first) (below_end : n < 2 ^ 64 - 1)
          (start : State) (fresh : start.core.draws ≡ 0) (held : ℕ → ℕ) (script : IsScript p.allowed held) (there : run_ticking ticking held start first ≡ base) where
        near_base : (t : ℕ) → first ≡ t → Near (run_ticking ticking held start t) t
        near_base t same =
            subst (λ (t : ℕ). Near (run_ticking ticking held start t) t) same
            (subst (λ (s : State). Near s first) (sym there)
            (record { state = base; at = first; moves = begun.moves; few = begun.few; forgotten = 0; early = omega arith; phased = refl; same = ticks_same p base proper; ended = λ _. refl; safe = begun.path }))

        pub near_run : (t : ℕ) → first ≤ t → t ≤ n → Near (run_ticking ticking held start t) t
        near_run zero after within_n = near_base zero (omega arith)
        near_run (suc t) after within_n =
            ⊎_elim
            (λ (later : first < suc t).
            let count = add-one t in
            let few = drawn ticking held start fresh t in
            subst (λ (m : ℕ). Near (run_ticking ticking held start (suc t)) m) (add-one t)
            (onward (run_ticking ticking held start t) t (held t) (omega arith) (script t) (omega arith) (near_run t (omega arith) (omega arith))))
            (λ (now : suc t ≤ first). near_base (suc t) (omega arith))
            (cases_lt first (suc t))

        pub avoided : (t : ℕ) → first ≤ t → t ≤ n → met_in p.target (run_ticking ticking held start t) ≡ None
        avoided t after within_n =
            let near = near_run t after within_n in
            let early = near.early in
            let fine = fine_of near.moves near.forgotten near.state near.at near.safe (omega arith) in
            sym (met_same p near.forgotten near.state (run_ticking ticking held start t) near.same fine.known) ∙ fine.avoided

        noted : (t : ℕ) → first ≤ t → t ≤ n → is_at_one v.executed (run_ticking ticking held start t) ≡ true
        noted t after within_n =
            let near = near_run t after within_n in
            let early = near.early in
            ap (λ (c : Core). is_some c.stopped || is_among v.executed c.pc) (sym near.same.alike.others)
            ∙ (fine_of near.moves near.forgotten near.state near.at near.safe (omega arith)).noted

    module _ (n : ℕ) (within_limit : n < v.limit) (taken : (j : ℕ) → j < length v.steps → slice_index v.steps j < n → IsTaken p v j)
        (start : State) (proper : IsProper start) (fresh : start.core.draws ≡ 0) (begun : Safe p v 0 start 0) (below_end : n < 2 ^ 64 - 1) where
      covered : Avoids p.rate p.allowed p.target start n
      covered held script t within_n =
          ap (met_in p.target) (ticking_run p.rate held start t)
          ∙ avoided (ticks p.rate) (λ at_rate t. refl) n within_limit taken start 0 proper begun below_end start fresh held script refl t (omega arith) within_n

      among : StaysAmong p.rate p.allowed v.executed start n
      among held script t within_n =
          ap (is_at_one v.executed) (ticking_run p.rate held start t)
          ∙ noted (ticks p.rate) (λ at_rate t. refl) n within_limit taken start 0 proper begun below_end start fresh held script refl t (omega arith) within_n

      -- the timers may tick at any time, if the ticks are free
      at_any_speed : p.free ≡ true → AvoidsAtAnySpeed p.allowed p.target start n
      at_any_speed free ticking held script t within_n =
          avoided ticking (λ at_rate. absurd (cc)) n within_limit taken start 0 proper begun below_end start fresh held script refl t (omega arith) within_n

      pub all_covered : Covers p v.executed start n × (p.free ≡ true → AvoidsAtAnySpeed p.allowed p.target start n)
      all_covered = (record { avoids = covered; stays = among }, at_any_speed)
