use Rattle.std.proofs.Common.{true, false, leb, is_some, refl, ap, sym, ◌∙◌, arith}
use Rattle.std.specs.FinMap as map
use Rattle.chip_replay.specs.Keys.{event_at, Events}
use Rattle.chip_replay.proofs.Moments.{get_moment}
use Rattle.chip_replay.proofs.KeyFacts.{insert_fault-in_range}
use Rattle.std.proofs.lemmas.Bool.{le-leb, lt-leb}
use Rattle.chip_replay.specs.Limits.{most_events}
use Rattle.chip_replay.proofs.keys.Keys.insert_fault.Goals as goal

pub returns-then-contains_key : goal.returns-then-contains_key
returns-then-contains_key c =
    sym (insert_fault-in_range c.args.self.now c.args.step c.args.key true _ (omega arith) (omega arith)
    (ap (λ (e : Events). is_some (event_at e c.args.step c.args.key)) (sym c.self.view_is) ∙ ap is_some (get_moment c.self.inside.events.entries _) ∙ sym c.contains_key.ensures ∙ c.if-contains_key.true) refl)

pub returns-then-len-ge-MOST_EVENTS : goal.returns-then-len-ge-MOST_EVENTS
returns-then-len-ge-MOST_EVENTS c =
    sym (insert_fault-in_range c.args.self.now c.args.step c.args.key false true (omega arith) (omega arith)
    (ap (λ (e : Events). is_some (event_at e c.args.step c.args.key)) (sym c.self.view_is) ∙ ap is_some (get_moment c.self.inside.events.entries _) ∙ sym c.contains_key.ensures ∙ c.if-contains_key.false)
    (ap (λ (e : Events). leb most_events (map.len e)) (sym c.self.view_is) ∙ ap (leb most_events) (c.self.invariant.0 ∙ sym c.len.ensures.len) ∙ le-leb most_events c.len.result (omega arith)))

pub returns : goal.returns
returns c =
    sym (insert_fault-in_range c.args.self.now c.args.step c.args.key false false (omega arith) (omega arith)
    (ap (λ (e : Events). is_some (event_at e c.args.step c.args.key)) (sym c.self.view_is) ∙ ap is_some (get_moment c.self.inside.events.entries _) ∙ sym c.contains_key.ensures ∙ c.if-contains_key.false)
    (ap (λ (e : Events). leb most_events (map.len e)) (sym c.self.view_is) ∙ ap (leb most_events) (c.self.invariant.0 ∙ sym c.len.ensures.len) ∙ lt-leb most_events c.len.result (omega arith)))
