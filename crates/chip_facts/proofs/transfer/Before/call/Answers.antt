use Rattle.std.proofs.Common.{◌≡◌, ◌+◌, ◌==◌, ◌∷◌, ◌++◌, [], false, true, length, sym, refl, ap, ◌∙◌, subst, eq-eqb, if◌then◌else◌}
use Rattle.std.proofs.lemmas.Bool.{ne_eqb}
use Rattle.chip_machine.specs.declared.stop.Stop.TheVariants as cause
use Rattle.chip_machine.specs.Step.{effect, call, perform, Stops, Changes}
use Rattle.chip_facts.specs.inner.Steps.{Meets}
use Rattle.chip_facts.proofs.Outcomes.{meets_one, ok_two}
use Rattle.chip_facts.proofs.transfer.Before.call.Goals as goal

pub returns : goal.returns
unfolding effect
returns c = ok_two c.to.result _ _ _ c.to.ensures.next c.to.ensures.stored (λ out next stored s at keys.
    let few : (length s.core.frames == 16) ≡ false = ne_eqb _ _ (λ h. c.if-self-eq-FRAMES.false (ap length (sym at.frames_are) ∙ h)) in
    subst (λ b. Meets c.args.self.now.frames.now out s (perform keys s (if b then Stops cause.FramesFull else Changes (call c.args.address s.core)))) (sym few)
    (meets_one c.args.self.now.frames.now out s (call c.args.address s.core) _ next stored
    (record { same_flags = refl; tape_is = refl; quirks_are = refl; stop_is = refl })
    (record {
      pc = sym c.number.ensures.value;
      frames_are = λ i. at.frames_are i ++ (at.pc i + 2) ∷ [];
      known = at.known;
    })))

pub returns-then-self-eq-FRAMES : goal.returns-then-self-eq-FRAMES
unfolding effect
returns-then-self-eq-FRAMES c = λ s at keys.
    let full : (length s.core.frames == 16) ≡ true = eq-eqb _ _ (ap length at.frames_are ∙ c.if-self-eq-FRAMES.true) in
    subst (λ b. Meets c.args.self.now.frames.now c.stops.result s (perform keys s (if b then Stops cause.FramesFull else Changes (call c.args.address s.core)))) (sym full)
    c.stops.ensures
