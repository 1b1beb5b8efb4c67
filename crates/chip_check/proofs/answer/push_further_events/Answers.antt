use Rattle.chip_check.proofs.Pieces.{no_more, one_more}
use Rattle.chip_check.specs.Answer.{further_event}
use Rattle.chip_check.proofs.AnswerPieces.{then_piece}
use Rattle.chip_check.proofs.answer.push_further_events.Goals as goal

pub loop-event-preserved : goal.loop-event-preserved
loop-event-preserved c =
    one_more further_event c.args.text.now.items c.loop-event.text.items c.args.events.now c.loop-event.event-index _ _
    c.loop-event-test.true c.loop-event.invariant
    (then_piece c.loop-event.text.items _ _ _ _ c.in_ok-extend_from_slice.ensures.items c.in_ok-push_key_event.ensures)

pub returns : goal.returns
returns c =
    no_more further_event c.args.text.now.items c.loop-event.text.items c.args.events.now c.loop-event.event-index
    c.loop-event-test.false c.loop-event.invariant
