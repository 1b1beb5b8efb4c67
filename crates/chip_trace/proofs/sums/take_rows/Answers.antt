use Rattle.std.proofs.Common.{◌≡◌, ◌<◌, ◌∙◌, ap, arith, below_more, get_or, length, sym, true}
use Rattle.chip_trace.specs.Sums.{row_bytes}
use Rattle.chip_trace.specs.inner.Rows.{bytes_of_row}
use Rattle.chip_trace.proofs.RowBytes.{row_bytes_are, row_kept, rows_kept}
use Rattle.chip_trace.proofs.sums.take_rows.Goals as goal
use Rattle.chip_trace.proofs.sums.take_rows.Goals.{then-rows-row, else-rows-row}

pub loop-row-preserved : goal.loop-row-preserved
loop-row-preserved c =
    let lit = c.args.machine.now.core.lit in
    let here : bytes_of_row c.row-points.result ≡ row_bytes lit c.loop-row.row = row_bytes_are lit c.loop-row.row c.row-points.result c.row-points.ensures.points in
    elim c.if-rows-row.branch [
      | then-rows-row w ↦
          let inside : c.loop-row.row < length c.loop-row.rows = omega (arith, c.loop-row.invariant.size) in
          record {
            shown = rw w.rows-is (row_kept bytes_of_row (row_bytes lit) c.loop-row.rows c.loop-row.row c.row-points.result inside here c.loop-row.invariant.shown);
            same = λ (e : c.if-rows-row.is_same ≡ true). absurd (let other = w.is_same-is in cc);
            size = c.if-rows-row.auto.rows ∙ c.loop-row.invariant.size;
          }
      | else-rows-row w ↦
          record {
            shown = rw w.rows-is (below_more (λ k. bytes_of_row (get_or c.loop-row.rows k 0) ≡ row_bytes lit k) c.loop-row.row c.loop-row.invariant.shown
                (ap bytes_of_row w.if-rows-row.false ∙ here));
            same = λ (e : c.if-rows-row.is_same ≡ true). w.rows-is ∙ c.loop-row.invariant.same (sym w.is_same-is ∙ e);
            size = c.if-rows-row.auto.rows ∙ c.loop-row.invariant.size;
          }
    ]

pub returns-clause-shown : goal.returns-clause-shown
returns-clause-shown c =
    rows_kept c.args.machine.now.core.lit c.loop-row.rows c.loop-row.invariant.size (λ k lt. c.loop-row.invariant.shown k (omega arith))
