-- What a search that looks only for properties met, and its answer to each of them.
use Rattle.std.proofs.Common.{◌≡◌, ℕ, ◌<◌, Bool, true, false, List, [], ◌∷◌, Option, Some, None, IfSome, length, option_map, slice_get, refl, sym, ◌∙◌, ap, subst}
use Rattle.std.specs.Prelude.{position, if◌then◌else◌}
use Rattle.std.proofs.lemmas.Bool.{lt-ltb}
use Rattle.std.proofs.lemmas.List.Quantifiers.{position-Some}
use Rattle.chip_explore.specs.Answers.{Answers}
use Rattle.chip_explore.specs.Causes.{is_wanted}
use Rattle.chip_explore.specs.OneOf.{AnswersOne, IsOneOf, NeverOne, told_of}
use Rattle.chip_explore.specs.Property.{is_met}
use Rattle.chip_explore.specs.Scripts.{keys_of}
use Rattle.chip_explore.specs.Speeds.{NeverAtAnySpeed}
use Rattle.chip_explore.specs.Target.{is_address, met_by, met_in}
use Rattle.chip_explore.specs.declared.property.Property.{Property}
use Rattle.chip_explore.specs.declared.question.Outcome.{Outcome}
use Rattle.chip_explore.specs.declared.question.Outcome.TheVariants.{Found, Later, Within, Never}
use Rattle.chip_explore.specs.declared.target.Met.{Met}
use Rattle.chip_explore.specs.declared.target.Met.TheVariants as met
use Rattle.chip_explore.specs.declared.target.Target.{Target}
use Rattle.chip_machine.specs.State.{State}
use Rattle.chip_machine.specs.Step.{step_of}
use Rattle.chip_machine.specs.declared.stop.Stop.{Stop}
use Rattle.chip_machine.specs.declared.stop.Stop.TheVariants as stop
use Rattle.chip_replay.specs.Keys.{held}
use Rattle.chip_replay.specs.Run.{run}
use Rattle.chip_analysis.specs.Proving.{looks_for}
use Rattle.chip_analysis.specs.inner.Proofs.{IsUnmet, met_property, property_met}

none_some : {A : Type 0} {a : A} → ◌≡◌ {A = Option A} None (Some a) → ⊥
none_some h = cc

some_same : {A : Type 0} {a b : A} → Some a ≡ Some b → b ≡ a
some_same h = cc

no_cause : (cause : Stop) → is_wanted 0 cause ≡ false
no_cause stop.Exit = refl
no_cause stop.NoInstruction = refl
no_cause stop.PcOutOfRange = refl
no_cause stop.FramesFull = refl
no_cause stop.NoFrame = refl
no_cause stop.AddressOutOfRange = refl
no_cause stop.NoFlag = refl

placed : (p : Property → Bool) (xs : List Property) (k : ℕ) → position p xs ≡ Some k → k < length xs
placed p [] k e = absurd (none_some e)
placed p (x ∷ xs) k e = (position-Some p (x ∷ xs) k x e).0

module _ (rate keys : ℕ) (start : State) (properties : List Property) (target : Target) (causes : target.causes ≡ 0) (address : target.address ≡ None)
    (same : target.properties.now ≡ properties) where
  -- what is met is one of the properties
  module _ (s : State) (m : Met) where
    abbrev Placed : Type 0
    Placed = (k : ℕ) × (m ≡ met.Property k) × (position (is_met s) target.properties.now ≡ Some k)

    caused : (cause : Stop) → met_by target s (Some cause) ≡ None
    caused cause = ap (λ (b : Bool). if b then Some (met.Cause cause) else None) (ap (λ (c : ℕ). is_wanted c cause) causes ∙ no_cause cause)

    uncaused : met_by target s None ≡ option_map met.Property (position (is_met s) target.properties.now)
    uncaused =
        ap (λ (a : Option ℕ). if is_address a s.core.pc then Some met.Address else option_map met.Property (position (is_met s) target.properties.now)) address

    at_place : (p : Option ℕ) → position (is_met s) target.properties.now ≡ p → option_map met.Property p ≡ Some m → Placed
    at_place (Some k) is e = (k, some_same e, is)
    at_place None is e = absurd (none_some e)

    placed_by : (o : Option Stop) → met_by target s o ≡ Some m → Placed
    placed_by (Some cause) e = absurd (none_some (sym (caused cause) ∙ e))
    placed_by None e = at_place (position (is_met s) target.properties.now) refl (sym uncaused ∙ e)

    no_other : met_in target s ≡ Some m → property_met m (length properties) ≡ None → ⊥
    no_other e none =
        let p = placed_by s.core.stopped e in
        let within : p.0 < length properties = subst (λ (ps : List Property). p.0 < length ps) same (placed (is_met s) target.properties.now p.0 p.2) in
        none_some (sym none ∙ ap (λ (n : Met). property_met n (length properties)) p.1
        ∙ ap (λ (b : Bool). if b then Some p.0 else None) (lt-ltb p.0 (length properties) within))

  pub unmet : (outcome : Outcome) → Answers rate keys target start outcome → met_property outcome (length properties) ≡ None → IsUnmet outcome
  unmet (Within n) a e = tt
  unmet Never a e = tt
  unmet (Found events step m) a e = no_other (run step_of rate (held (keys_of events.items)) start step) m a.script.meets e
  unmet (Later events step m covered) a e = no_other (run step_of rate (held (keys_of events.items)) start step) m a.0.meets e

  one_of : (k : ℕ) (property : Property) → slice_get properties k ≡ Some property → IsOneOf k (looks_for property) target
  one_of k property there = record {
    causes = sym causes;
    address = sym address;
    property = property;
    there = ap (λ (ps : List Property). slice_get ps k) same ∙ there;
    alone = refl;
  }

  pub each_answer : AnswersOne → (outcome : Outcome) → Answers rate keys target start outcome → (k : ℕ) (property : Property) →
      slice_get properties k ≡ Some property → IfSome (told_of k outcome) (Answers rate keys (looks_for property) start)
  each_answer law outcome a k property there = law rate keys k (looks_for property) target start outcome (one_of k property there) a

  pub each_never : NeverOne → (is_any : Bool) → (is_any ≡ true → NeverAtAnySpeed keys target start) → (k : ℕ) (property : Property) →
      slice_get properties k ≡ Some property → is_any ≡ true → NeverAtAnySpeed keys (looks_for property) start
  each_never law is_any never k property there is = law keys k (looks_for property) target start (one_of k property there) (never is)
