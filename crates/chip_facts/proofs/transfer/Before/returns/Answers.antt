use Rattle.std.proofs.Common.{◌≡◌, ◌-◌, ◌==◌, false, true, length, take, slice_index, sym, refl, ap, ◌∙◌, subst, eq-eqb, if◌then◌else◌}
use Rattle.std.proofs.lemmas.Bool.{ne_eqb}
use Rattle.chip_machine.specs.declared.stop.Stop.TheVariants as cause
use Rattle.chip_machine.specs.Step as step
use Rattle.chip_facts.specs.inner.Steps.{Meets}
use Rattle.chip_facts.proofs.Outcomes.{meets_one, ok_two}
use Rattle.chip_facts.proofs.transfer.Before.returns.Goals as goal

pub returns : goal.returns
unfolding step.effect
returns c = ok_two c.to.result _ _ _ c.to.ensures.next c.to.ensures.stored (λ out next stored s at keys.
    let some : (length s.core.frames == 0) ≡ false = ne_eqb _ _ (λ h. c.if-self-eq0.false (ap length (sym at.frames_are) ∙ h)) in
    subst (λ b. Meets c.args.self.now.frames.now out s (step.perform keys s (if b then step.Stops cause.NoFrame else step.Changes (step.return s.core)))) (sym some)
    (meets_one c.args.self.now.frames.now out s (step.return s.core) _ next stored
    (record { same_flags = refl; tape_is = refl; quirks_are = refl; stop_is = refl })
    (record {
      pc = λ i. slice_index (at.frames_are i) (length (at.frames_are i) - 1);
      frames_are = λ i. take (length (at.frames_are i) - 1) (at.frames_are i);
      known = at.known;
    })))

pub returns-then-self-eq0 : goal.returns-then-self-eq0
unfolding step.effect
returns-then-self-eq0 c = λ s at keys.
    let empty : (length s.core.frames == 0) ≡ true = eq-eqb _ _ (ap length at.frames_are ∙ c.if-self-eq0.true) in
    subst (λ b. Meets c.args.self.now.frames.now c.stops.result s (step.perform keys s (if b then step.Stops cause.NoFrame else step.Changes (step.return s.core)))) (sym empty)
    c.stops.ensures
