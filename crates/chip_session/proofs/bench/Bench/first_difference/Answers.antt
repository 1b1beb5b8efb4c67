use Rattle.std.proofs.Common.{ℕ, subst}
use Rattle.std.specs.Prelude.{IfOk}
use Rattle.std.specs.Str.Lines.{lines}
use Rattle.chip_machine.specs.State.{State}
use Rattle.chip_trace.specs.Difference.{IsComparison}
use Rattle.chip_trace.specs.Lines.{remaining}
use Rattle.chip_session.proofs.AnswerLemmas.{machine_is}
use Rattle.chip_session.proofs.bench.Bench.first_difference.Goals as goal

pub returns-clause-found : goal.returns-clause-found
returns-clause-found c =
    let some = rw (← c.self.view_is) at c.requires in
    let same = machine_is c.self.inside.source.lines c.self.inside.run c.self.invariant some in
    rw (← c.self.view_is) (subst (λ (state : ℕ → State). IfOk c.first_difference.result (IsComparison (remaining state c.args.trace.now) (lines c.args.theirs.now))) same c.first_difference.ensures.found)
