-- Tables of rows. Each reached state lies in a row of such a table.
use Rattle.std.specs.Prelude.{◌≡◌, ℕ, List, Any, Contains, Some, Result, Ok, Err}
use Rattle.chip_machine.specs.declared.quirks.Quirks.{Quirks}
use Rattle.chip_machine.specs.declared.stop.Stop.{Stop}
use Rattle.chip_machine.specs.State.{Core, State}
use Rattle.chip_machine.specs.Step.{effect_at, perform}
use Rattle.chip_facts.specs.inner.Knowing.{IsKnown}
use Rattle.chip_facts.specs.inner.Steps.{IsAround}
use Rattle.chip_facts.specs.declared.table.Row.{Row}
use Rattle.chip_facts.specs.declared.table.Table.{Table}

-- a core lies in a row
pub record LiesIn (c : Core) (row : Row) : Type 0 where
  pub pc_is : c.pc ≡ row.pc
  pub frames_are : c.frames ≡ row.frames.items
  pub known : IsKnown row.known c

abbrev pub IsInTable : List Row → Core → Type 0
IsInTable rows c = Any (LiesIn c) rows

-- a step leads to a state that lies in the table, or to a stop that isn't excluded
abbrev pub IsAllowed : Table → Quirks → ℕ → Result State Stop → Type 0
IsAllowed table quirks pc (Err why) = Contains table.left.items (record { pc = pc; stop = why })
IsAllowed table quirks pc (Ok new) = IsInTable table.rows.items new.core × IsAround table.memory.items quirks new

-- each step from a row is allowed
abbrev pub IsClosed : Table → Quirks → Row → Type 0
IsClosed table quirks row =
    (s : State) → LiesIn s.core row → IsAround table.memory.items quirks s
    → (keys : ℕ) → IsAllowed table quirks s.core.pc (perform keys s (effect_at s))

-- a state lies in the table, or has stopped in a way that isn't excluded
pub data IsHeld (table : Table) (quirks : Quirks) (s : State) : Type 0 where
  lies : IsInTable table.rows.items s.core → IsAround table.memory.items quirks s → IsHeld table quirks s
  stopped : (why : Stop) → s.core.stopped ≡ Some why → Contains table.left.items (record { pc = s.core.pc; stop = why })
      → Any (λ row. s.core.pc ≡ row.pc) table.rows.items → IsHeld table quirks s
