use Rattle.std.proofs.Common.{Bool, sym, ap, subst, if◌then◌else◌}
use Rattle.std.proofs.lemmas.Result.{IfOk-weaker}
use Rattle.chip_machine.specs.Step.{Changes, next, perform, reg, with_flag, with_reg}
use Rattle.chip_facts.specs.inner.Operations.{value_of}
use Rattle.chip_facts.specs.inner.Steps.{Meets}
use Rattle.chip_facts.proofs.transfer.Before.logic.Goals as goal

pub returns : goal.returns
returns c = IfOk-weaker c.plain.result _ _ (λ out gives none s at keys.
    let value = value_of c.args.operation (reg s.core c.args.x) (reg s.core c.args.y) in
    subst (λ (b : Bool). Meets c.args.self.now.frames.now out s (perform keys s (Changes (next (if b then with_flag c.args.x value 0 s.core else with_reg c.args.x value s.core)))))
    (ap (λ q. q.clears_flag) (sym at.around.same)) (gives none s at keys)) c.plain.ensures
