use Rattle.std.proofs.Common.{ℕ, subst}
use Rattle.std.specs.Prelude.{IfOk}
use Rattle.chip_machine.specs.State.{State}
use Rattle.chip_trace.specs.Lines.{TakesLines}
use Rattle.chip_session.proofs.RunLemmas.{states_are}
use Rattle.chip_session.proofs.image_run.ImageRun.push_trace.Goals as goal

pub returns-clause-lines : goal.returns-clause-lines
returns-clause-lines c =
    let same = states_are c.self.inside.settings c.self.inside.replay c.self.inside.last_image.items c.self.invariant.replays in
    rw (← c.self.view_is) (subst (λ (state : ℕ → State). IfOk c.push_lines.result (TakesLines state c.args.most c.args.trace.now c.push_lines.new.self c.args.text.now.items c.push_lines.new.text.items)) same c.push_lines.ensures.lines)
