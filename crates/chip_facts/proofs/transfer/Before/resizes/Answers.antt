use Rattle.std.proofs.lemmas.Result.{IfOk-weaker}
use Rattle.chip_machine.specs.Step.{next, resized}
use Rattle.chip_facts.proofs.Changes.{on_resized}
use Rattle.chip_facts.proofs.transfer.Before.resizes.Goals as goal

pub returns : goal.returns
returns c = IfOk-weaker c.on.result _ _ (λ out gives. λ s at keys. gives s (next (resized c.args.high s.core)) at (
    on_resized c.args.self.now.known s.core c.args.high at.known)) c.on.ensures
