use Rattle.std.proofs.Common.{◌≡◌, ℕ, ◌<◌, get_or, length, true}
use Rattle.chip_trace.specs.Sums.{row_bytes}
use Rattle.chip_trace.specs.inner.Rows.{bytes_of_row}
use Rattle.chip_trace.specs.declared.sums.TheConstants.{HEIGHT}
use Rattle.chip_trace.proofs.sums.take_rows.Given as goal

abbrev pub invariant-loop-row : goal.invariant-loop-row
invariant-loop-row l = record {
  shown : (k : ℕ) → k < l.row → bytes_of_row (get_or l.rows k 0) ≡ row_bytes l.machine.core.lit k;
  same : l.is_same ≡ true → l.rows ≡ l.initial.rows;
  size : length l.rows ≡ HEIGHT;
}
