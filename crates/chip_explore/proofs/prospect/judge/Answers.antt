use Rattle.std.proofs.Common.{◌≡◌, is_some, ap, sym, ◌∙◌, arith}
use Rattle.std.proofs.lemmas.Bool.{not-true}
use Rattle.std.proofs.lemmas.Result.{IfOk-weaker}
use Rattle.chip_machine.specs.Step.{step_of}
use Rattle.chip_replay.specs.Run.{run}
use Rattle.chip_explore.proofs.Lost.{dead_end, stopped_end}
use Rattle.chip_explore.proofs.prospect.judge.Goals as goal

pub returns-then-is_some : goal.returns-then-is_some
returns-then-is_some g c = λ yes n below.
    let p = c.args.setting.now in
    let events = c.args.way.now.events.items in
    let under = rw (c.in-Some.is, c.deref.ensures.value) at c.in_ok-machine.ensures.under in
    stopped_end p c.args.start.now events c.args.way.now.step n c.in-Some.machine under
    (sym (ap is_some c.stopped.ensures) ∙ sym c.is_some.ensures ∙ c.if-is_some.true)
    (sym c.meets_goals.ensures ∙ not-true c.meets_goals.result (rw c.at_once-then-is_some.ensures at yes))

pub returns : goal.returns
returns g c =
    let p = c.args.setting.now in
    let events = c.args.way.now.events.items in
    let under = rw (c.in-Some.is, c.deref.ensures.value) at c.in_ok-machine.ensures.under in
    let step : c.from.result ≡ c.args.way.now.step = c.from.ensures in
    IfOk-weaker c.seek_goals.result _ _
    (λ answer lost yes n below.
    dead_end p c.args.start.now events c.args.way.now.step n c.in-Some.machine under
    (λ later script there t after within. lost yes c.args.start.now later c.requires.fresh script (ap (run step_of p.rate later c.args.start.now) step ∙ there) t (omega arith) (omega arith)))
    c.seek_goals.ensures
