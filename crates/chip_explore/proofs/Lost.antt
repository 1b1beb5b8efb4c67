-- States from which no way of playing leads to the goals.
use Rattle.std.proofs.Common.{◌≡◌, ◌≢◌, ℕ, zero, suc, ◌+◌, ◌-◌, ◌<◌, ◌≤◌, Bool, true, false, List, [], ◌∷◌, Option, Some, None, option_map, position, is_some, refl, sym, ap, subst, ◌∙◌, ⊎_elim, if◌then◌else◌, arith}
use Rattle.std.proofs.lemmas.Bool.{and_left, cases_lt}
use Rattle.std.proofs.lemmas.Iterator.Adapters.{position_from-zero}
use Rattle.std.specs.List.{position_from}
use Rattle.chip_machine.specs.Block.{ticks}
use Rattle.chip_machine.specs.Relevant.{AlikeSteps, DrawsGrow}
use Rattle.chip_machine.specs.State.{State}
use Rattle.chip_machine.specs.Step.{step_of}
use Rattle.chip_machine.specs.declared.stop.Stop.{Stop}
use Rattle.chip_replay.specs.Keys.{held}
use Rattle.chip_replay.specs.Run.{run}
use Rattle.chip_explore.specs.Property.{is_met}
use Rattle.chip_explore.specs.Prospects.{IsDeadEnd, are_met}
use Rattle.chip_explore.specs.Scripts.{IsScript, keys_of}
use Rattle.chip_explore.specs.Target.{is_address, met_by, met_in}
use Rattle.chip_explore.specs.declared.limits.TheConstants.{END}
use Rattle.chip_explore.specs.declared.members.Members.{Members}
use Rattle.chip_explore.specs.declared.property.Property.{Property}
use Rattle.chip_explore.specs.declared.script.KeyEvent.{KeyEvent}
use Rattle.chip_explore.specs.declared.setting.Setting.{Setting}
use Rattle.chip_explore.specs.declared.target.Met.TheVariants as met
use Rattle.chip_explore.specs.declared.target.Target.{Target}
use Rattle.chip_explore.specs.inner.Cover.{IsSearched, IsUnder, IsWhole, meets_goals, view_of}
use Rattle.chip_explore.proofs.Covered.{avoided, stays, ticking_run}
use Rattle.chip_explore.proofs.Halted.{goals_stopped}
use Rattle.chip_explore.proofs.OneOf.{mapped_none, none_by}
use Rattle.chip_explore.proofs.Reached.{run_agree}

-- ---- a machine that makes a step and meets none of these properties

unmet_first : (goals : List Property) (s : State) → goals ≢ [] → position (is_met s) goals ≡ None → are_met goals s ≡ false
unmet_first [] s some h = absurd (some refl)
unmet_first (goal ∷ rest) s some h =
    and_left (is_met s goal) (are_met rest s)
    (none_by (is_met s) (is_met s goal) 0 (position_from (is_met s) 1 rest) (sym (position_from-zero (is_met s) (goal ∷ rest)) ∙ h)).0

unmet_by : (target : Target) (s : State) (stopped : Option Stop) → is_some stopped ≡ false → target.address ≡ None → target.properties.now ≢ [] → met_by target s stopped ≡ None
    → are_met target.properties.now s ≡ false
unmet_by target s (Some why) going none some h = absurd (cc)
unmet_by target s None going none some h =
    let first : option_map met.Property (position (is_met s) target.properties.now) ≡ None =
    sym (ap (λ (address : Option ℕ). if is_address address s.core.pc then Some met.Address else option_map met.Property (position (is_met s) target.properties.now)) none) ∙ h in
    unmet_first target.properties.now s some (mapped_none (position (is_met s) target.properties.now) first)

unmet : (target : Target) (s : State) → is_some s.core.stopped ≡ false → target.address ≡ None → target.properties.now ≢ [] → met_in target s ≡ None → are_met target.properties.now s ≡ false
unmet target s going none some h = unmet_by target s s.core.stopped going none some h

-- ---- from a machine that makes a step, after a complete search for the goals

module _ (alike : AlikeSteps) (grow : DrawsGrow) (p : Setting) (m : Members) (base : State) (first : ℕ) (searched : IsSearched p m base first) (whole : IsWhole p m)
    (going : is_some base.core.stopped ≡ false) (address : p.target.address ≡ None) (some : p.target.properties.now ≢ [])
    (start : State) (keys : ℕ → ℕ) (fresh : start.core.draws ≡ 0) (script : IsScript p.allowed keys) (there : run step_of p.rate keys start first ≡ base) where
  abbrev ran : ℕ → State
  ran t = run step_of p.rate keys start t

  abbrev Lost : ℕ → Type 0
  Lost t = are_met p.target.properties.now (ran t) ≡ false

  avoids : (t : ℕ) → first ≤ t → t < END → met_in p.target (ran t) ≡ None
  avoids t after below =
      let limit = whole.limit in
      ap (met_in p.target) (ticking_run p.rate keys start t)
      ∙ avoided alike grow p (view_of m) (ticks p.rate) (λ at_rate u. refl) (END - 1) (omega arith) whole.taken m.start first searched.proper searched.begun (omega arith)
      start fresh keys script (sym (ticking_run p.rate keys start first) ∙ there ∙ sym searched.begins) t after (omega arith)

  lost_stopped : (t : ℕ) → Lost t → (before : Bool) → is_some (ran t).core.stopped ≡ before → is_some (ran (suc t)).core.stopped ≡ true → Lost (suc t)
  lost_stopped t lost true is stops = ap (are_met p.target.properties.now) (stays (ran t) (keys t) (ticks p.rate t) is) ∙ lost
  lost_stopped t lost false is stops = goals_stopped p.target.properties.now (ran t) (keys t) (ticks p.rate t) is stops ∙ lost

  lost_by : (t : ℕ) → first ≤ t → t < END → (stopped : Bool) → is_some (ran t).core.stopped ≡ stopped → (stopped ≡ true → Lost t) → Lost t
  lost_by t after below true is when = when refl
  lost_by t after below false is when = unmet p.target (ran t) is address some (avoids t after below)

  at_first : (t : ℕ) → first ≡ t → is_some (ran t).core.stopped ≡ false
  at_first t same = subst (λ (t : ℕ). is_some (ran t).core.stopped ≡ false) same (ap (λ (s : State). is_some s.core.stopped) there ∙ going)

  pub lost_from : (t : ℕ) → first ≤ t → t < END → Lost t
  lost_from zero after below =
      lost_by zero after below (is_some (ran zero).core.stopped) refl (λ stops. let going_on = at_first zero (omega arith) in absurd (cc))
  lost_from (suc t) after below =
      lost_by (suc t) after below (is_some (ran (suc t)).core.stopped) refl
      (λ stops.
      ⊎_elim
      (λ (later : first < suc t). lost_stopped t (lost_from t (omega arith) (omega arith)) (is_some (ran t).core.stopped) refl stops)
      (λ (now : suc t ≤ first). let going_on = at_first (suc t) (omega arith) in absurd (cc))
      (cases_lt first (suc t)))

-- ---- from a machine that has stopped

module _ (rate : ℕ) (keys : ℕ → ℕ) (start : State) where
  still : (t : ℕ) → is_some (run step_of rate keys start t).core.stopped ≡ true → (more : ℕ) → run step_of rate keys start (more + t) ≡ run step_of rate keys start t
  still t halted zero =
      let same : 0 + t ≡ t = omega arith in
      ap (run step_of rate keys start) same
  still t halted (suc more) =
      let before = still t halted more in
      let also : is_some (run step_of rate keys start (more + t)).core.stopped ≡ true = ap (λ (s : State). is_some s.core.stopped) before ∙ halted in
      let same : suc more + t ≡ suc (more + t) = omega arith in
      ap (run step_of rate keys start) same
      ∙ stays (run step_of rate keys start (more + t)) (keys (more + t)) (ticks rate (more + t)) also
      ∙ before

-- events that lead to a state where the goals are lost
pub dead_end : (p : Setting) (start : State) (events : List KeyEvent) (step n : ℕ) (s : State) → IsUnder p start (keys_of events) step s
    → ((later : ℕ → ℕ) → IsScript p.allowed later → run step_of p.rate later start step ≡ s → (t : ℕ) → step ≤ t → t ≤ n → are_met p.goals.now (run step_of p.rate later start t) ≡ false)
    → IsDeadEnd p.rate p.allowed p.goals.now start events step n
dead_end p start events step n s under lost =
    record {
      allowed_only = under.allowed_only;
      lost = λ later script agree. lost later script (run_agree p.rate start later (held (keys_of events)) step agree ∙ sym under.reached);
    }

pub stopped_end : (p : Setting) (start : State) (events : List KeyEvent) (step n : ℕ) (s : State) → IsUnder p start (keys_of events) step s
    → is_some s.core.stopped ≡ true → meets_goals p s ≡ false → IsDeadEnd p.rate p.allowed p.goals.now start events step n
stopped_end p start events step n s under halted unmet =
    dead_end p start events step n s under
    (λ later script there t after within.
    let whole : (t - step) + step ≡ t = omega arith in
    let same = still p.rate later start step (ap (λ (s : State). is_some s.core.stopped) there ∙ halted) (t - step) in
    ap (λ (t : ℕ). are_met p.goals.now (run step_of p.rate later start t)) (sym whole) ∙ ap (are_met p.goals.now) (same ∙ there) ∙ unmet)
