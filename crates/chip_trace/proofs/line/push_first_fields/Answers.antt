use Rattle.chip_trace.proofs.Usual.{first_fields}
use Rattle.chip_trace.proofs.line.push_first_fields.Goals as goal

pub returns : goal.returns
returns c = λ is_last.
    rw (
      c.in_ok-push_decimal-3.ensures,
      c.draws.ensures,
      c.in_ok-push.ensures.items,
      c.in_ok-push_decimal-2.ensures,
      c.depth.ensures,
      c.in_ok-push_fixed_fields.ensures,
      c.in_ok-push_decimal.ensures,
      c.from.ensures,
    )
    (first_fields c.args.text.now.items c.args.step c.args.machine.now is_last)
