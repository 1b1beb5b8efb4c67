use Rattle.std.proofs.Common.{refl}
use Rattle.chip_machine.specs.Step.{next, reg, with_flag, with_reg}
use Rattle.chip_facts.specs.inner.Knowing.{second_of}
use Rattle.chip_facts.specs.inner.Operations.{value_of}
use Rattle.chip_facts.proofs.Following.{is_past}
use Rattle.chip_facts.proofs.transfer.Before.flagged.Goals as goal

pub returns-clause-is : goal.returns-clause-is
returns-clause-is c = λ s at flag.
    is_past c.args.self.now s 2 c.past.result c.set_flag.new.self
    (next (with_flag c.args.x (value_of c.args.operation (reg s.core c.args.x) (second_of c.args.second.now s.core)) c.args.flag s.core))
    at c.past.ensures.pc c.past.ensures.known c.past.ensures.way refl refl
    (c.set_flag.ensures (with_reg c.args.x (value_of c.args.operation (reg s.core c.args.x) (second_of c.args.second.now s.core)) s.core) c.args.flag (c.in_ok-known.ensures.is s.core at.known flag) c.single.ensures)
