use Rattle.std.proofs.Common.{[]}
use Rattle.chip_views.specs.Picture.{picture_line}
use Rattle.chip_views.proofs.Parts.{parts_more}
use Rattle.chip_views.proofs.picture.screen_text.Goals as goal

pub loop-line-preserved : goal.loop-line-preserved
loop-line-preserved c =
    let more = parts_more (picture_line c.args.letters c.args.machine.now.core.high c.args.machine.now.core.lit) [] c.loop-line.line in
    rw (c.in_ok-push_line.ensures, c.loop-line.invariant) more
