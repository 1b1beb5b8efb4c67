-- Implications of an answer for several properties for one of them.
use Rattle.std.proofs.Common.{◌≡◌, ℕ, zero, suc, ◌+◌, ◌<◌, Bool, true, false, List, [], ◌∷◌, Option, Some, None, IfSome, option_map, position, slice_get, ap, sym, subst, ◌∙◌, refl, arith, if◌then◌else◌}
use Rattle.std.proofs.lemmas.Bool.{eqb-true}
use Rattle.std.proofs.lemmas.Iterator.Adapters.{position_from-zero}
use Rattle.std.proofs.lemmas.List.Quantifiers.{position-Some}
use Rattle.std.proofs.lemmas.Option.{get_or_from_slice_get}
use Rattle.std.specs.Global.{Vec}
use Rattle.std.specs.List.{position_from}
use Rattle.chip_machine.specs.declared.stop.Stop.{Stop}
use Rattle.chip_machine.specs.State.{State}
use Rattle.chip_machine.specs.Step.{step_of}
use Rattle.chip_replay.specs.Keys.{held}
use Rattle.chip_replay.specs.Run.{run}
use Rattle.chip_explore.specs.Answers.{Answers, IsFound, Meets}
use Rattle.chip_explore.specs.Causes.{is_wanted}
use Rattle.chip_explore.specs.OneOf.{AnswersOne, IsOneOf, NeverOne, before, is_of}
use Rattle.chip_explore.specs.Property.{is_met}
use Rattle.chip_explore.specs.Scripts.{Avoids, keys_of}
use Rattle.chip_explore.specs.Speeds.{run_ticking}
use Rattle.chip_explore.specs.Target.{is_address, met_by}
use Rattle.chip_explore.specs.declared.property.Property.{Property}
use Rattle.chip_explore.specs.declared.question.Outcome.{Outcome}
use Rattle.chip_explore.specs.declared.question.Outcome.TheVariants.{Found, Later, Within, Never}
use Rattle.chip_explore.specs.declared.script.KeyEvent.{KeyEvent}
use Rattle.chip_explore.specs.declared.target.Met.{Met}
use Rattle.chip_explore.specs.declared.target.Met.TheVariants as met
use Rattle.chip_explore.specs.declared.target.Target.{Target}

-- ---- the test of the item at a place, by the first item that passes

module _ {A : Type 0} (test : A → Bool) where
  pub none_by : (here : Bool) (i : ℕ) (rest : Option ℕ) → (if here then Some i else rest) ≡ None → (here ≡ false) × (rest ≡ None)
  none_by true i rest h = absurd (cc)
  none_by false i rest h = (refl, h)

  none_passes : (i : ℕ) (xs : List A) (k : ℕ) (x : A) → position_from test i xs ≡ None → slice_get xs k ≡ Some x → test x ≡ false
  none_passes i [] k x none there = absurd (cc)
  none_passes i (y ∷ ys) zero x none there =
      let same : y ≡ x = cc in
      ap test (sym same) ∙ (none_by (test y) i (position_from test (i + 1) ys) none).0
  none_passes i (y ∷ ys) (suc k) x none there =
      none_passes (i + 1) ys k x (none_by (test y) i (position_from test (i + 1) ys) none).1 there

-- ---- the match of a machine

-- the match of a target: the address, or the first property that is met
abbrev going : (at : Bool) → Option ℕ → Option Met
going at first = if at then Some met.Address else option_map met.Property first

abbrev first_only : Bool → Option ℕ
first_only holds = if holds then Some 0 else None

pub mapped_none : (first : Option ℕ) → option_map met.Property first ≡ None → first ≡ None
mapped_none None h = refl
mapped_none (Some j) h = absurd (cc)

mapped_some : (first : Option ℕ) (k : ℕ) → option_map met.Property first ≡ Some (met.Property k) → first ≡ Some k
mapped_some None k h = absurd (cc)
mapped_some (Some j) k h = cc

avoided_by : (at holds : Bool) (first : Option ℕ) → going at first ≡ None → (first ≡ None → holds ≡ false) → going at (first_only holds) ≡ None
avoided_by true holds first h one = absurd (cc)
avoided_by false true first h one = let not_so : true ≡ false = one (mapped_none first h) in absurd (cc)
avoided_by false false first h one = refl

met_first : (at holds : Bool) (first : Option ℕ) (k : ℕ) → going at first ≡ Some (met.Property k) → (first ≡ Some k → holds ≡ true) → going at (first_only holds) ≡ Some (met.Property 0)
met_first true holds first k h one = absurd (cc)
met_first false true first k h one = refl
met_first false false first k h one = let not_so : false ≡ true = one (mapped_some first k h) in absurd (cc)

no_cause : (wanted : Bool) (cause : Stop) (k : ℕ) (other : Option Met) → (if wanted then Some (met.Cause cause) else None) ≡ Some (met.Property k) → other ≡ Some (met.Property 0)
no_cause true cause k other h = absurd (cc)
no_cause false cause k other h = absurd (cc)

module _ (k : ℕ) (one all : Target) (is : IsOneOf k one all) where
  module _ (s : State) where
    one_going : met_by one s None ≡ going (is_address all.address s.core.pc) (first_only (is_met s is.property))
    one_going =
        ap (λ (address : Option ℕ). going (is_address address s.core.pc) (position (is_met s) one.properties.now)) is.address
        ∙ ap (λ (ps : List Property). going (is_address all.address s.core.pc) (position (is_met s) ps)) is.alone
        ∙ ap (going (is_address all.address s.core.pc)) (position_from-zero (is_met s) (is.property ∷ []))

    avoids_by : (stopped : Option Stop) → met_by all s stopped ≡ None → met_by one s stopped ≡ None
    avoids_by (Some cause) h = ap (λ (causes : ℕ). if is_wanted causes cause then Some (met.Cause cause) else None) is.causes ∙ h
    avoids_by None h =
        one_going
        ∙ avoided_by (is_address all.address s.core.pc) (is_met s is.property) (position (is_met s) all.properties.now) h
        (λ none. none_passes (is_met s) 0 all.properties.now k is.property (sym (position_from-zero (is_met s) all.properties.now) ∙ none) is.there)

    meets_by : (stopped : Option Stop) → met_by all s stopped ≡ Some (met.Property k) → met_by one s stopped ≡ Some (met.Property 0)
    meets_by (Some cause) h = no_cause (is_wanted all.causes cause) cause k _ h
    meets_by None h =
        one_going
        ∙ met_first (is_address all.address s.core.pc) (is_met s is.property) (position (is_met s) all.properties.now) k h
        (λ first.
        ap (is_met s) (sym (get_or_from_slice_get all.properties.now k is.property is.property is.there))
        ∙ (position-Some (is_met s) all.properties.now k is.property first).1)

  module _ (rate allowed : ℕ) (start : State) where
    avoids_one : (n : ℕ) → Avoids rate allowed all start n → Avoids rate allowed one start n
    avoids_one n avoids held script t within =
        let s : State = run step_of rate held start t in
        avoids_by s s.core.stopped (avoids held script t within)

    meets_one : (events : List KeyEvent) (step : ℕ) → Meets rate allowed all start events step (met.Property k) → Meets rate allowed one start events step (met.Property 0)
    meets_one events step meets =
        let s : State = run step_of rate (held (keys_of events)) start step in
        record { meets = meets_by s s.core.stopped meets.meets; allowed_only = meets.allowed_only }

    abbrev Told : Option Outcome → Type 0
    Told told = IfSome told (λ outcome. Answers rate allowed one start outcome)

    before_one : (step : ℕ) → ((n : ℕ) → n < step → Avoids rate allowed all start n) → Told (before step)
    before_one zero first = tt
    before_one (suc n) first = avoids_one n (first n (omega arith))

    -- the match is the property at the place if the test succeeds
    of_place : (m : Met) → is_of k m ≡ true → m ≡ met.Property k
    of_place (met.Property j) h = ap met.Property (eqb-true j k h)
    of_place (met.Cause cause) h = absurd (cc)
    of_place met.Address h = absurd (cc)

    found_one : (events : Vec KeyEvent) (step : ℕ) (m : Met) → IsFound rate allowed all start events.items step m → (here : Bool) → is_of k m ≡ here
        → Told (if here then Some (Found events step (met.Property 0)) else before step)
    found_one events step m found true h =
        record {
          script = meets_one events.items step (subst (λ (m : Met). Meets rate allowed all start events.items step m) (of_place m h) found.script);
          first = λ n low. avoids_one n (found.first n low);
        }
    found_one events step m found false h = before_one step found.first

    later_one : (events : Vec KeyEvent) (step : ℕ) (m : Met) (covered : ℕ) → Meets rate allowed all start events.items step m → Avoids rate allowed all start covered
        → (here : Bool) → is_of k m ≡ here → Told (if here then Some (Later events step (met.Property 0) covered) else Some (Within covered))
    later_one events step m covered meets avoids true h =
        (meets_one events.items step (subst (λ (m : Met). Meets rate allowed all start events.items step m) (of_place m h) meets), avoids_one covered avoids)
    later_one events step m covered meets avoids false h = avoids_one covered avoids

pub answers_one : AnswersOne
answers_one rate allowed k one all start (Found events step m) is found = found_one k one all is rate allowed start events step m found (is_of k m) refl
answers_one rate allowed k one all start (Later events step m covered) is both = later_one k one all is rate allowed start events step m covered both.0 both.1 (is_of k m) refl
answers_one rate allowed k one all start (Within n) is avoids = avoids_one k one all is rate allowed start n avoids
answers_one rate allowed k one all start Never is avoids = λ n low. avoids_one k one all is rate allowed start n (avoids n low)

pub never_one : NeverOne
never_one allowed k one all start is never n low ticking held script t within =
    let s : State = run_ticking ticking held start t in
    avoids_by k one all is s s.core.stopped (never n low ticking held script t within)
