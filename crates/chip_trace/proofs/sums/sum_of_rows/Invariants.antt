use Rattle.std.proofs.Common.{◌≡◌, take}
use Rattle.chip_trace.specs.Sums.{fnv_of}
use Rattle.chip_trace.specs.inner.Rows.{bytes_of_rows}
use Rattle.chip_trace.proofs.sums.sum_of_rows.Given as goal

abbrev pub invariant-loop-points : goal.invariant-loop-points
invariant-loop-points l = l.sum ≡ fnv_of (bytes_of_rows (take l.points-index l.rows))
