use Rattle.std.proofs.Common.{ℕ, subst}
use Rattle.std.specs.Prelude.{IfOk}
use Rattle.std.specs.Str.Lines.{lines}
use Rattle.chip_machine.specs.State.{State}
use Rattle.chip_trace.specs.Difference.{IsComparison}
use Rattle.chip_trace.specs.Lines.{remaining}
use Rattle.chip_session.proofs.RunLemmas.{states_are}
use Rattle.chip_session.proofs.image_run.ImageRun.first_difference.Goals as goal

pub returns-clause-found : goal.returns-clause-found
returns-clause-found c =
    let same = states_are c.self.inside.settings c.self.inside.replay c.self.inside.last_image.items c.self.invariant.replays in
    rw (← c.self.view_is) (subst (λ (state : ℕ → State). IfOk c.first_difference.result (IsComparison (remaining state c.args.trace.now) (lines c.args.theirs.now))) same c.first_difference.ensures.found)
