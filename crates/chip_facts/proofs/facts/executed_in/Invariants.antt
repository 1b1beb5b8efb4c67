use Rattle.std.proofs.Common.{◌≡◌, ℕ, ◌<◌, true, get_or}
use Rattle.chip_facts.specs.declared.table.Row.{Row}
use Rattle.chip_facts.specs.Facts.{is_among}
use Rattle.chip_facts.proofs.facts.executed_in.Given as goal

abbrev pub invariant-loop-row : goal.invariant-loop-row
invariant-loop-row l = (k : ℕ) (d : Row) → k < l.row-index → is_among l.executed.items (get_or l.rows k d).pc ≡ true
