use Rattle.chip_trace.proofs.Usual.{register_more}
use Rattle.chip_trace.proofs.json.push_register_members.Goals as goal

pub loop-place-preserved : goal.loop-place-preserved
loop-place-preserved c =
    rw (c.in_ok-push_small.ensures, c.in_ok-extend_from_slice.ensures.items, c.hex_digit-digit.ensures, c.registers-registers.ensures.value)
    (register_more c.args.text.now.items c.loop-place.text.items c.args.machine.now.core.registers c.loop-place.place c.loop-place.invariant)
