use Rattle.std.proofs.Common.{Bool, ap, sym, subst, if◌then◌else◌, ◌∙◌}
use Rattle.std.proofs.lemmas.Result.{IfOk-weaker}
use Rattle.chip_machine.specs.declared.stop.Stop.TheVariants as cause
use Rattle.chip_machine.specs.Step.{Stops, perform}
use Rattle.chip_facts.specs.inner.Steps.{Meets}
use Rattle.chip_facts.proofs.transfer.Before.if_super.Goals as goal

pub returns-then-self : goal.returns-then-self
returns-then-self c = λ effect gives. IfOk-weaker c.args.outcome _ _ (λ out given s at keys.
    subst (λ (b : Bool). Meets c.args.self.now.frames.now out s (perform keys s (if b then effect s.core else Stops cause.NoInstruction)))
    (sym (ap (λ q. q.has_super_instructions) at.around.same ∙ c.if-self.true)) (given s at keys)) gives

pub returns-else-self : goal.returns-else-self
returns-else-self c = λ effect gives s at keys.
    subst (λ (b : Bool). Meets c.args.self.now.frames.now c.stops.result s (perform keys s (if b then effect s.core else Stops cause.NoInstruction)))
    (sym (ap (λ q. q.has_super_instructions) at.around.same ∙ c.if-self.false)) c.stops.ensures
