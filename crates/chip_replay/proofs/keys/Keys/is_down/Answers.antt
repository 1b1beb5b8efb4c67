use Rattle.std.proofs.Common.{sym, ap, ◌∙◌, rules}
use Rattle.chip_replay.specs.Keys.{Events, is_down}
use Rattle.chip_replay.proofs.LastEvent.{is_down-from_last, is_down-from_none}
use Rattle.chip_replay.proofs.keys.Keys.is_down.Goals as goal

pub returns-in-Some : goal.returns-in-Some
returns-in-Some c =
    let part = c.range.ensures.in_range (search rules) in
    let here = part.3 _ _ c.in-Some.ensures.steps in
    let last = part.4 _ _ c.in-Some.ensures.steps in
    sym (is_down-from_last c.self.inside.events.entries c.args.key c.args.step c.in-Some.field-0-0.now c.in-Some.down.now
    (rw c.new.ensures.start at here.0.0) (rw c.new.ensures.end at here.0.1) here.1
    (λ q low high there. last q (rw c.new.ensures.start low, rw c.new.ensures.end high) there))
    ∙ ap (λ (e : Events). is_down e c.args.key c.args.step) c.self.view_is

pub returns-in-None : goal.returns-in-None
returns-in-None c =
    let part = c.range.ensures.in_range (search rules) in
    sym (is_down-from_none c.self.inside.events.entries c.args.key c.args.step (λ q low high. part.5 c.in-None.ensures.steps.0 q (rw c.new.ensures.start low, rw c.new.ensures.end high)))
    ∙ ap (λ (e : Events). is_down e c.args.key c.args.step) c.self.view_is
