use Rattle.std.proofs.Common.{◌∙◌, ap, fold, sym}
use Rattle.chip_trace.specs.Sums.{fnv_of, fnv_step}
use Rattle.chip_trace.specs.inner.Rows.{bytes_of_row}
use Rattle.chip_trace.proofs.RowBytes.{no_rows, sum_more}
use Rattle.chip_trace.proofs.sums.sum_of_rows.Goals as goal

pub loop-points-init : goal.loop-points-init
loop-points-init c = ap fnv_of (sym no_rows)

pub loop-points-preserved : goal.loop-points-preserved
unfolding bytes_of_row
loop-points-preserved c =
    sum_more c.args.rows.now c.loop-points.points-index c.loop-points.sum _ c.loop-points-test.true c.loop-points.invariant
    (c.fnv_after-sum.ensures ∙ ap (fold fnv_step c.loop-points.sum) c.to_be_bytes.ensures)
