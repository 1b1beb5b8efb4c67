-- Why each reached state that hasn't stopped lies in a row of the facts.
use Rattle.std.proofs.Common.{◌≡◌, Any, Option, Some, None, sym, arith, subst}
use Rattle.std.proofs.lemmas.List.{get_or_append_left}
use Rattle.chip_machine.specs.declared.quirks.Quirks.{Quirks}
use Rattle.chip_machine.specs.declared.stop.Stop.{Stop}
use Rattle.chip_machine.specs.State.{State}
use Rattle.chip_facts.specs.Rows.{IsInRow, MayBe}
use Rattle.chip_facts.specs.inner.Steps.{IsAround}
use Rattle.chip_facts.specs.inner.Tables.{IsHeld, LiesIn}
use Rattle.chip_facts.specs.inner.Tables.IsHeld.{lies, stopped}
use Rattle.chip_facts.specs.declared.facts.Facts.{Facts}
use Rattle.chip_facts.specs.declared.table.Row.{Row}
use Rattle.chip_facts.specs.declared.table.Table.{Table}

in_row : (facts : Facts) (row : Row) (quirks : Quirks) (s : State) → LiesIn s.core row → IsAround facts.memory.items quirks s → IsInRow facts row s
in_row facts row quirks s at around = record {
  place = at.pc_is;
  calls = at.frames_are;
  register_count = at.known.count;
  registers = λ x below. record { small = (at.known.each x below).small; among = (at.known.each x below).among };
  index_fits = at.known.small;
  index = at.known.index;
  delay = at.known.bound;
  size = at.known.size;
  memory_size = around.size;
  memory = λ at low.
      subst (λ b. MayBe facts.memory.items at b) (get_or_append_left s.memory s.core.flags 0 at (omega (arith, low, around.size)))
      (record { small = around.small at; among = around.bytes at (omega (arith, low)) });
}

stops_not : (o : Option Stop) (why : Stop) → o ≡ Some why → o ≡ None → ⊥
stops_not o why some none = cc

pub in_some : (table : Table) (facts : Facts) (quirks : Quirks) → facts.rows.items ≡ table.rows.items → facts.memory.items ≡ table.memory.items
    → (s : State) → IsHeld table quirks s → s.core.stopped ≡ None → Any (λ row. IsInRow facts row s) facts.rows.items
in_some table facts quirks rows memory s (lies in-table around) runs =
    let (k, row, within, is, at) = subst (Any (LiesIn s.core)) (sym rows) in-table in
    (k, row, within, is, in_row facts row quirks s at (subst (λ m. IsAround m quirks s) (sym memory) around))
in_some table facts quirks rows memory s (stopped why is left place) runs = absurd (stops_not s.core.stopped why is runs)
