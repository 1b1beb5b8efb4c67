use Rattle.std.proofs.Common.{◌∙◌}
use Rattle.chip_trace.specs.inner.Rows.{bytes_of_row}
use Rattle.chip_trace.proofs.RowBytes.{row_bytes_are}
use Rattle.chip_trace.proofs.sums.row_bytes.Goals as goal

pub returns : goal.returns
unfolding bytes_of_row
returns c = c.to_be_bytes.ensures ∙ row_bytes_are c.args.machine.now.core.lit c.args.row c.row.result c.row.ensures.points
