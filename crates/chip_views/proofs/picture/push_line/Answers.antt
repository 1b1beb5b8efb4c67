use Rattle.chip_views.specs.Picture.{cell_at}
use Rattle.chip_views.proofs.Parts.{parts_more}
use Rattle.chip_views.proofs.picture.push_line.Goals as goal

pub loop-column-preserved : goal.loop-column-preserved
loop-column-preserved c =
    let more = parts_more (cell_at c.args.letters c.args.machine.now.core.high c.args.machine.now.core.lit c.args.line) c.args.text.now.items c.loop-column.column in
    rw (c.in_ok-extend_from_slice.ensures.items, c.cell_at.ensures, c.loop-column.invariant) more
