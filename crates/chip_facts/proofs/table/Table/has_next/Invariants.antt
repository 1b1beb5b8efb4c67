use Rattle.std.proofs.Common.{ℕ, ◌<◌, get_or}
use Rattle.chip_machine.specs.State.{Core}
use Rattle.chip_facts.specs.inner.Steps.{IsNext}
use Rattle.chip_facts.specs.inner.Tables.{IsInTable}
use Rattle.chip_facts.specs.declared.outcome.Successor.{Successor}
use Rattle.chip_facts.proofs.table.Table.has_next.Given as goal

abbrev pub invariant-loop-successor : goal.invariant-loop-successor
invariant-loop-successor l = (k : ℕ) (n : Successor) (c : Core) → k < l.successor-index → IsNext l.frames c (get_or l.next k n) → IsInTable l.self.rows.items c
