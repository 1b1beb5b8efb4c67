use Rattle.chip_facts.proofs.Outcomes.{meets_on, ok_two}
use Rattle.chip_facts.proofs.transfer.Before.on.Goals as goal

pub returns : goal.returns
returns c = ok_two c.to.result _ _ _ c.to.ensures.next c.to.ensures.stored (λ out next stored.
    meets_on c.args.self.now out c.past-successor.result c.args.known next stored
    c.past-successor.ensures.pc c.past-successor.ensures.known c.past-successor.ensures.way)
