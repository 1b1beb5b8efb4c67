use Rattle.std.proofs.Common.{◌≡◌, ℕ, ◌<◌, false, get_or}
use Rattle.chip_explore.specs.Property.{is_met}
use Rattle.chip_facts.specs.Rows.{IsInRow}
use Rattle.chip_facts.specs.declared.table.Row.{Row}
use Rattle.chip_machine.specs.State.{State}
use Rattle.chip_verdicts.proofs.verdict.may_meet.Given as goal

abbrev pub invariant-loop-row : goal.invariant-loop-row
invariant-loop-row l = (k : ℕ) (d : Row) (s : State) → k < l.row-index → IsInRow l.facts (get_or l.row-items k d) s → is_met s l.property ≡ false
