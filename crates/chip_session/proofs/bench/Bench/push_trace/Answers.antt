use Rattle.std.proofs.Common.{ℕ, subst}
use Rattle.std.specs.Prelude.{IfOk}
use Rattle.chip_machine.specs.State.{State}
use Rattle.chip_trace.specs.Lines.{TakesLines}
use Rattle.chip_session.proofs.AnswerLemmas.{machine_is}
use Rattle.chip_session.proofs.bench.Bench.push_trace.Goals as goal

pub returns-clause-lines : goal.returns-clause-lines
returns-clause-lines c =
    let some = rw (← c.self.view_is) at c.requires in
    let same = machine_is c.self.inside.source.lines c.self.inside.run c.self.invariant some in
    rw (← c.self.view_is) (subst (λ (state : ℕ → State). IfOk c.push_trace.result (TakesLines state c.args.most c.args.trace.now c.push_trace.new.trace c.args.text.now.items c.push_trace.new.text.items)) same c.push_trace.ensures.lines)
