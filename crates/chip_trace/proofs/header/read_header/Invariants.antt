use Rattle.std.proofs.Common.{◌≡◌, ◌++◌, map, Some}
use Rattle.chip_trace.specs.Header.{column_of, columns_named}
use Rattle.chip_trace.specs.inner.Naming.{names_left, bytes_left}
use Rattle.chip_trace.proofs.header.read_header.Given as goal

abbrev pub invariant-loop-left : goal.invariant-loop-left
invariant-loop-left l = map Some l.columns.items ++ map column_of (names_left l.left) ≡ columns_named l.fn.line

abbrev pub decreases-loop-left : goal.decreases-loop-left
decreases-loop-left l = bytes_left l.left
