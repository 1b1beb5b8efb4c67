use Rattle.chip_session.specs.MachineAnswers.{row_line}
use Rattle.chip_views.proofs.Parts.{parts_more}
use Rattle.chip_session.proofs.machine_answer.push_rows.Goals as goal

pub loop-row-preserved : goal.loop-row-preserved
loop-row-preserved c =
    let more = parts_more (row_line c.args.machine.now.core.lit) c.args.answer.now.items c.loop-row.row in
    rw (c.in_ok-push_row_line.ensures, c.loop-row.invariant) more
