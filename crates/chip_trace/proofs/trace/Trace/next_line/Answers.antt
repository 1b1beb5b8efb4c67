use Rattle.std.proofs.Common.{true, false, refl, arith, rules}
use Rattle.std.proofs.lemmas.Grind.{common_steps}
use Rattle.chip_trace.specs.Lines.{IsLineAt, states_of}
use Rattle.chip_trace.proofs.TraceLemmas.{takes_none, takes_last, takes_more}
use Rattle.chip_trace.proofs.trace.Trace.next_line.Goals as goal

pub returns-then-self-clause-line : goal.returns-then-self-clause-line
returns-then-self-clause-line c =
    takes_none (states_of c.args.replay.now) c.args.self.now c.args.text.now.items (rw (← c.self.view_is) c.if-self.true)

pub returns-then-not-is_last-clause-line : goal.returns-then-not-is_last-clause-line
returns-then-not-is_last-clause-line c =
    let line : IsLineAt c.self.inside.form c.self.inside.columns.now (states_of c.args.replay.now) c.self.inside.next c.self.inside.to false c.args.text.now.items c.push_row.new.text.items =
    record { added = search rules; last = grind (arith, common_steps) } in
    rw (← c.self.view_is) (takes_more (states_of c.args.replay.now) _ _ _ _ c.if-self.false line refl refl refl refl c.if-not-is_last.true)

pub returns-else-not-is_last-clause-line : goal.returns-else-not-is_last-clause-line
returns-else-not-is_last-clause-line c =
    let line : IsLineAt c.self.inside.form c.self.inside.columns.now (states_of c.args.replay.now) c.self.inside.next c.self.inside.to true c.args.text.now.items c.push_row.new.text.items =
    record { added = search rules; last = grind (arith, common_steps) } in
    rw (← c.self.view_is) (takes_last (states_of c.args.replay.now) _ _ _ _ c.if-self.false line c.if-not-is_last.false)
