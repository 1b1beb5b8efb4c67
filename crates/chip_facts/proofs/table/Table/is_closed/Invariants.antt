use Rattle.std.proofs.Common.{ℕ, ◌<◌, get_or}
use Rattle.chip_facts.specs.inner.Tables.{IsClosed}
use Rattle.chip_facts.specs.declared.table.Row.{Row}
use Rattle.chip_facts.proofs.table.Table.is_closed.Given as goal

abbrev pub invariant-loop-row : goal.invariant-loop-row
invariant-loop-row l = (k : ℕ) (d : Row) → k < l.row-index → IsClosed l.self l.quirks (get_or l.self.rows.items k d)
