use Rattle.std.proofs.Common.{true, false, is_some, ap, sym, ◌∙◌, arith}
use Rattle.chip_replay.specs.Keys.{event_at, Events}
use Rattle.chip_replay.proofs.Moments.{get_moment}
use Rattle.chip_replay.proofs.KeyFacts.{edit_fault-in_range}
use Rattle.chip_replay.proofs.keys.Keys.edit_fault.Goals as goal

pub returns-then-contains_key : goal.returns-then-contains_key
returns-then-contains_key c =
    sym (edit_fault-in_range c.args.self.now c.args.step c.args.key true (omega arith) (omega arith)
    (ap (λ (e : Events). is_some (event_at e c.args.step c.args.key)) (sym c.self.view_is) ∙ ap is_some (get_moment c.self.inside.events.entries _) ∙ sym c.contains_key.ensures ∙ c.if-contains_key.true))

pub returns-else-contains_key : goal.returns-else-contains_key
returns-else-contains_key c =
    sym (edit_fault-in_range c.args.self.now c.args.step c.args.key false (omega arith) (omega arith)
    (ap (λ (e : Events). is_some (event_at e c.args.step c.args.key)) (sym c.self.view_is) ∙ ap is_some (get_moment c.self.inside.events.entries _) ∙ sym c.contains_key.ensures ∙ c.if-contains_key.false))
