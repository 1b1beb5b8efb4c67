use Rattle.chip_trace.proofs.Usual.{first_members}
use Rattle.chip_trace.proofs.json.push_first_members.Goals as goal

pub returns : goal.returns
returns c = λ is_last.
    rw (
      c.in_ok-push_decimal-6.ensures,
      c.draws.ensures,
      c.in_ok-extend_from_slice-8.ensures.items,
      c.in_ok-push_decimal-5.ensures,
      c.depth.ensures,
      c.in_ok-extend_from_slice-7.ensures.items,
      c.in_ok-push_small-2.ensures,
      c.sound.ensures,
      c.in_ok-extend_from_slice-6.ensures.items,
      c.in_ok-push_small.ensures,
      c.delay.ensures,
      c.in_ok-extend_from_slice-5.ensures.items,
      c.in_ok-push_decimal-4.ensures,
      c.from-4.ensures,
      c.index.ensures,
      c.in_ok-extend_from_slice-4.ensures.items,
      c.in_ok-push_register_members.ensures,
      c.in_ok-push_decimal-3.ensures,
      c.from-3.ensures,
      c.word_of.ensures,
      c.in_ok-extend_from_slice-3.ensures.items,
      c.in_ok-push_decimal-2.ensures,
      c.from-2.ensures,
      c.pc.ensures,
      c.in_ok-extend_from_slice-2.ensures.items,
      c.in_ok-push_decimal.ensures,
      c.from.ensures,
      c.in_ok-extend_from_slice.ensures.items,
    )
    (first_members c.args.text.now.items c.args.step c.args.machine.now is_last)
