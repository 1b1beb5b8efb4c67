-- From each state of a run, some way of playing leads to the goals, if each kept state has a rank.
use Rattle.std.proofs.Common.{◌≡◌, ℕ, zero, suc, ◌+◌, ◌-◌, ◌*◌, ◌^◌, ◌<◌, ◌≤◌, ◌==◌, ◌⊎◌, Bool, true, false, List, length, slice_index, is_some, refl, sym, ap, subst, ◌∙◌, ⊎_elim, if◌then◌else◌, arith, add-one}
use Rattle.std.specs.Int.Bits.{and_zero_l}
use Rattle.chip_machine.specs.Block.{ticks}
use Rattle.chip_machine.specs.Choices.{IsWithin}
use Rattle.chip_machine.specs.Forgotten.{IsForgottenAfter, IsUnneeded}
use Rattle.chip_machine.specs.Relevant.{AlikeSteps, DrawsGrow}
use Rattle.chip_machine.specs.State.{State}
use Rattle.chip_machine.specs.Step.{step_of}
use Rattle.chip_replay.specs.Run.{run}
use Rattle.chip_explore.specs.Prospects.{Agree, AlwaysCan, StillCan, are_met}
use Rattle.chip_explore.specs.Scripts.{IsScript}
use Rattle.chip_explore.specs.Speeds.{run_ticking}
use Rattle.chip_explore.specs.declared.limits.TheConstants.{END, FAR, MOST_QUIET_STEPS}
use Rattle.chip_explore.specs.declared.members.Members.{Members}
use Rattle.chip_explore.specs.declared.setting.Setting.{Setting}
use Rattle.chip_explore.specs.inner.Cover.{IsFine, IsSearched, IsWhole, Joins, SafeFor, View, forgotten_at, phase, tick_at, view_of}
use Rattle.chip_explore.specs.inner.Delays.{AlikeTicks}
use Rattle.chip_explore.specs.inner.Ranks.{ClimbsFor, Falls, IsAtGoals, IsOpen, IsRanked, rank_at}
use Rattle.chip_explore.proofs.Alike.{through_member}
use Rattle.chip_explore.proofs.Asked.{goals_known, goals_same}
use Rattle.chip_explore.proofs.Covered.{Ended, Near, drawn, ended_by, near_run, phase_by, same_tick, ticking_run, untimed}

-- ---- scripts

-- a script with other keys in one step
abbrev turned : (ℕ → ℕ) → (t keys : ℕ) → ℕ → ℕ
turned held t keys u = if u == t then keys else held u

turned_below : (held : ℕ → ℕ) (t keys u : ℕ) → u < t → turned held t keys u ≡ held u
turned_below held t keys u below = let other : (u == t) ≡ false = search (arith, below) in rw other refl

turned_at : (held : ℕ → ℕ) (t keys : ℕ) → turned held t keys t ≡ keys
turned_at held t keys = let same : (t == t) ≡ true = search arith in rw same refl

within_by : (allowed keys other : ℕ) (test : Bool) → IsWithin allowed keys → IsWithin allowed other → IsWithin allowed (if test then keys else other)
within_by allowed keys other true one two = one
within_by allowed keys other false one two = two

turned_script : (allowed : ℕ) (held : ℕ → ℕ) (t keys : ℕ) → IsScript allowed held → IsWithin allowed keys → IsScript allowed (turned held t keys)
turned_script allowed held t keys script within u = within_by allowed keys (held u) (u == t) within (script u)

pub none_within : (allowed : ℕ) → IsWithin allowed 0
none_within allowed = and_zero_l allowed

-- ---- runs

module _ (rate : ℕ) (start : State) where
  pub run_agree : (one other : ℕ → ℕ) (t : ℕ) → Agree t one other → run step_of rate one start t ≡ run step_of rate other start t
  run_agree one other zero agree = refl
  run_agree one other (suc t) agree =
      ap (λ (s : State). step_of s (one t) (ticks rate t)) (run_agree one other t (λ u below. agree u (omega arith)))
      ∙ ap (λ (keys : ℕ). step_of (run step_of rate other start t) keys (ticks rate t)) (agree t (omega arith))

  turned_run : (held : ℕ → ℕ) (t keys : ℕ) → run step_of rate (turned held t keys) start (t + 1) ≡ step_of (run step_of rate held start t) keys (ticks rate t)
  turned_run held t keys =
      ap (run step_of rate (turned held t keys) start) (add-one t)
      ∙ ap (λ (s : State). step_of s (turned held t keys t) (ticks rate t)) (run_agree (turned held t keys) held t (turned_below held t keys))
      ∙ ap (λ (k : ℕ). step_of (run step_of rate held start t) k (ticks rate t)) (turned_at held t keys)

-- the maximal length of a sequence of steps, including the step before it
abbrev leg : ℕ
leg = MOST_QUIET_STEPS + 1

abbrev end : ℕ
end = 2 ^ 64 - 1

module _ (alike : AlikeSteps) (grow : DrawsGrow) (p : Setting) (v : View) (ranks : List ℕ) (start : State) (fresh : start.core.draws ≡ 0) where
  abbrev ran : (ℕ → ℕ) → ℕ → State
  ran held t = run step_of p.rate held start t

  abbrev Can : (ℕ → ℕ) → ℕ → Type 0
  Can held t = StillCan p.rate p.allowed p.goals.now start held t

  now : (held : ℕ → ℕ) (t : ℕ) → IsScript p.allowed held → are_met p.goals.now (ran held t) ≡ true → Can held t
  now held t script met =
      let same : t ≡ t + 0 = omega arith in
      record { later = held; script = script; agree = λ u below. refl; more = 0; met = subst (λ (n : ℕ). are_met p.goals.now (ran held n) ≡ true) same met }

  -- if the goals can be reached after a step with some keys, they can be reached before it
  onward : (held : ℕ → ℕ) (t keys : ℕ) → Can (turned held t keys) (t + 1) → Can held t
  onward held t keys can =
      let same : (t + 1) + can.more ≡ t + suc can.more = omega arith in
      record {
        later = can.later;
        script = can.script;
        agree = λ u below. can.agree u (omega arith) ∙ turned_below held t keys u below;
        more = suc can.more;
        met = subst (λ (n : ℕ). are_met p.goals.now (ran can.later n) ≡ true) same can.met;
      }

  module _ (f after : ℕ) (a : State) (u keys : ℕ) (unneeded : IsUnneeded f a) (free : IsOpen p a) (is_after : IsForgottenAfter f a (step_of a keys (tick_at p u)).core.pc after)
      (held : ℕ → ℕ) (t : ℕ) (phased : phase p u ≡ phase p t) (below : t < end) (near : AlikeTicks p f a (ran held t)) where
    made : AlikeTicks p after (step_of a keys (tick_at p u)) (step_of (ran held t) keys (ticks p.rate t))
    made =
        let few = rw (← ticking_run p.rate held start t) at (drawn alike grow (ticks p.rate) held start fresh t) in
        untimed alike grow p f after a (ran held t) keys (ticks p.rate t) unneeded free.drawn (omega arith) p.free refl (a.core.delay == 0) refl free.untimed (tick_at p u)
        (same_tick p.free p.rate u t (ticks p.rate t) (λ _. refl) phased) near is_after

    made_run : AlikeTicks p after (step_of a keys (tick_at p u)) (ran (turned held t keys) (t + 1))
    made_run = subst (λ (s : State). AlikeTicks p after (step_of a keys (tick_at p u)) s) (sym (turned_run p.rate start held t keys)) made

  -- ---- from the kept states

  abbrev Reached : ℕ → Type 0
  Reached r =
      (place : ℕ) → place < length v.steps → rank_at ranks place < r → (held : ℕ → ℕ) → IsScript p.allowed held → (t : ℕ)
      → phase p (slice_index v.steps place) ≡ phase p t → AlikeTicks p (forgotten_at v place) (v.member place) (ran held t)
      → t + (rank_at ranks place + 1) * leg < end → Can held t

  climbed : (r : ℕ) → Reached r → (moves f : ℕ) (a : State) (u : ℕ) → ClimbsFor p v ranks r moves f a u → (held : ℕ → ℕ) → IsScript p.allowed held → (t : ℕ)
      → phase p u ≡ phase p t → AlikeTicks p f a (ran held t) → t + moves + r * leg < end → Can held t
  climbed r reached zero f a u arrives held script t phased near room =
      ⊎_elim
      (λ (at : IsAtGoals p f a). now held t script (sym (goals_same p f a (ran held t) near at.going (goals_known p f a at.known)) ∙ at.met))
      (λ (falls : Falls p v ranks r f a u).
      let less = falls.less in
      reached falls.place falls.at.kept falls.less held script t (falls.at.phased ∙ phased)
      (through_member p f (forgotten_at v falls.place) (v.member falls.place) a (ran held t) falls.at.within falls.at.alike near)
      (omega arith))
      arrives
  climbed r reached (suc k) f a u climbs held script t phased near room =
      let keys = climbs.2.0 in
      let after = climbs.2.2.0 in
      onward held t keys
      (climbed r reached k after (step_of a keys (tick_at p u)) (u + 1) climbs.2.2.2 (turned held t keys)
      (turned_script p.allowed held t keys script climbs.2.1) (t + 1) (phase_by p.free p.rate u t phased)
      (made_run f after a u keys climbs.1 climbs.0 climbs.2.2.1 held t phased (omega arith) near)
      (omega arith))

  module _ (ranked : (place : ℕ) → place < length v.steps → IsRanked p v ranks place) where
    reached : (r : ℕ) → Reached r
    reached zero place kept less held script t phased near room = absurd (omega arith)
    reached (suc r) place kept less held script t phased near room =
        let is = ranked place kept in
        let few = is.climbs.few in
        climbed (rank_at ranks place) (λ j inside lower. reached r j inside (omega arith))
        is.climbs.moves (forgotten_at v place) (v.member place) (slice_index v.steps place) is.climbs.path held script t phased near (omega arith)

    -- ---- from the states of a run

    walked_end : (f : ℕ) (a : State) (u : ℕ) → IsFine p v.executed f a → (stopped : Bool) → is_some a.core.stopped ≡ stopped → (is_some a.core.stopped ≡ true) ⊎ Joins p v f a u
        → (held : ℕ → ℕ) → IsScript p.allowed held → (t : ℕ) → phase p u ≡ phase p t → AlikeTicks p f a (ran held t) → Ended alike grow p v a (ran held t)
        → t + 2 ^ 43 < end → Can held t
    walked_end f a u fine true is ends held script t phased near ended room =
        now held t script (sym (ended is) ∙ fine.ended is)
    walked_end f a u fine false is ends held script t phased near ended room =
        ⊎_elim
        (λ (halted : is_some a.core.stopped ≡ true). absurd (cc))
        (λ (joins : Joins p v f a u).
        let small = (ranked joins.place joins.at.kept).small in
        reached (2 ^ 32) joins.place joins.at.kept small held script t (joins.at.phased ∙ phased)
        (through_member p f (forgotten_at v joins.place) (v.member joins.place) a (ran held t) joins.at.within joins.at.alike near)
        (omega arith))
        ends

    walked : (moves f : ℕ) (a : State) (u : ℕ) → SafeFor p v moves f a u → (held : ℕ → ℕ) → IsScript p.allowed held → (t : ℕ) → u ≤ t → phase p u ≡ phase p t
        → AlikeTicks p f a (ran held t) → Ended alike grow p v a (ran held t) → t + moves + 2 ^ 43 < end → end ≤ v.limit → Can held t
    walked zero f a u safe held script t early phased near ended room whole =
        ⊎_elim
        (λ (past : v.limit ≤ u). absurd (omega arith))
        (λ (kept : IsFine p v.executed f a × ((is_some a.core.stopped ≡ true) ⊎ Joins p v f a u)).
        walked_end f a u kept.0 (is_some a.core.stopped) refl kept.1 held script t phased near ended (omega arith))
        safe
    walked (suc k) f a u safe held script t early phased near ended room whole =
        let after = safe.2.0 in
        let free : IsOpen p a = record { untimed = safe.0.untimed; drawn = safe.0.drawn } in
        let made_here = made f after a u 0 safe.1 free safe.2.1 held t phased (omega arith) near in
        let ended_here = ended_by alike grow p v f after a (ran held t) near ended (is_some a.core.stopped) refl (λ going. goals_known p f a (safe.0.fine.known going)) 0 (tick_at p u) (ticks p.rate t) made_here in
        onward held t 0
        (walked k after (step_of a 0 (tick_at p u)) (u + 1) safe.2.2 (turned held t 0) (turned_script p.allowed held t 0 script (none_within p.allowed)) (t + 1) (omega arith)
        (phase_by p.free p.rate u t phased)
        (made_run f after a u 0 safe.1 free safe.2.1 held t phased (omega arith) near)
        (subst (λ (s : State). Ended alike grow p v (step_of a 0 (tick_at p u)) s) (sym (turned_run p.rate start held t 0)) ended_here)
        (omega arith) whole)

-- a complete search in which each state has a rank
pub always : (alike : AlikeSteps) (grow : DrawsGrow) (p : Setting) (m : Members) (ranks : List ℕ) → m.start.core.draws ≡ 0 → IsSearched p m m.start 0 → IsWhole p m
    → ((place : ℕ) → place < length m.steps.items → IsRanked p (view_of m) ranks place) → (n : ℕ) → n < FAR → AlwaysCan p.rate p.allowed p.goals.now m.start n
always alike grow p m ranks fresh searched whole ranked n far held script t within_n =
    let v = view_of m in
    let last = END - 1 in
    let limit = whole.limit in
    let near : Near alike grow p v (run_ticking (ticks p.rate) held m.start t) t =
    near_run alike grow p v (ticks p.rate) (λ at_rate u. refl) last (omega arith) whole.taken m.start 0 searched.proper searched.begun (omega arith) m.start fresh held script refl t (omega arith) (omega arith) in
    let few = near.few in
    let same : run_ticking (ticks p.rate) held m.start t ≡ run step_of p.rate held m.start t = sym (ticking_run p.rate held m.start t) in
    walked alike grow p v ranks m.start fresh ranked near.moves near.forgotten near.state near.at near.safe held script t near.early near.phased
    (subst (λ (s : State). AlikeTicks p near.forgotten near.state s) same near.same)
    (subst (λ (s : State). Ended alike grow p v near.state s) same near.ended)
    (omega arith) (omega arith)
