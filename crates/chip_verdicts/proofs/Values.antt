-- Registers and bytes of the memory have bounded values in the states of a row.
use Rattle.std.proofs.Common.{ℕ, ◌<◌, get_or, inl, inr, arith}
use Rattle.std.proofs.lemmas.Bool.{cases_lt}
use Rattle.std.proofs.lemmas.List.{get_or_past}
use Rattle.chip_facts.specs.Rows.{IsInRow}
use Rattle.chip_facts.specs.declared.facts.Facts.{Facts}
use Rattle.chip_facts.specs.declared.table.Row.{Row}
use Rattle.chip_machine.specs.State.{State}
use Rattle.chip_machine.specs.Step.{reg}

pub register_small : (facts : Facts) (row : Row) (s : State) (x : ℕ) → IsInRow facts row s → reg s.core x < 256
register_small facts row s x at = elim (cases_lt x 16) [
  | inl low ↦ (at.registers x low).small
  | inr past ↦ omega (arith, get_or_past s.core.registers x 0 (omega (arith, past, at.register_count)))
]

pub byte_small : (facts : Facts) (row : Row) (s : State) (x : ℕ) → IsInRow facts row s → get_or s.memory x 0 < 256
byte_small facts row s x at = elim (cases_lt x 4096) [
  | inl low ↦ (at.memory x low).small
  | inr past ↦ omega (arith, get_or_past s.memory x 0 (omega (arith, past, at.memory_size)))
]
