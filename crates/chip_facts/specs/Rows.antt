-- The meaning of the rows of a table, and facts about all states that a machine with an image can reach.
-- Source: chosen by this project.
--     MayBe           a number is a byte, and is in the set at an index in a sequence of sets
--     IsInRow         a state lies in a row
--     HoldFacts       facts are true of a machine with an image
use Rattle.std.specs.Prelude.{◌≡◌, ℕ, ◌+◌, ◌*◌, ◌<◌, ◌≤◌, true, List, length, min, slice_index, Any, None, if◌then◌else◌}
use Rattle.chip_machine.specs.declared.quirks.Quirks.{Quirks}
use Rattle.chip_machine.specs.State.{State}
use Rattle.chip_machine.specs.Step.{reg}
use Rattle.chip_facts.specs.Facts.{AreFacts}
use Rattle.chip_facts.specs.Reached.{IsReached}
use Rattle.chip_facts.specs.Sets.{Holds}
use Rattle.chip_facts.specs.declared.facts.Facts.{Facts}
use Rattle.chip_facts.specs.declared.table.Row.{Row}

-- each set takes 256 bits, and the sets follow one after the other
pub record MayBe (sets : List ℕ) (place byte : ℕ) : Type 0 where
  pub small : byte < 256
  pub among : Holds sets (256 * place + byte)

pub record IsInRow (facts : Facts) (row : Row) (s : State) : Type 0 where
  -- the machine is at the row's address, with the row's call stack
  pub place : s.core.pc ≡ row.pc
  pub calls : s.core.frames ≡ row.frames.items
  -- each of the 16 registers has one of the bytes that the row allows for it
  pub register_count : length s.core.registers ≡ 16
  pub registers : (x : ℕ) → x < 16 → MayBe row.known.registers x (reg s.core x)
  -- I is one of the row's addresses; the last number of the set stands for all values past the memory
  pub index_fits : s.core.index < 65536
  pub index : Holds row.known.index (min s.core.index 4096)
  -- the delay timer is at most the row's bound
  pub delay : s.core.delay ≤ row.known.delay
  -- the screen has a size that the row allows
  pub size : (if s.core.high then row.known.may_be_high else row.known.may_be_low) ≡ true
  -- each byte of the memory is one that the table allows at its address
  pub memory_size : length s.memory ≡ 4096
  pub memory : (at : ℕ) → at < 4096 → MayBe facts.memory.items at (slice_index s.memory at)

pub record HoldFacts (image : List ℕ) (quirks : Quirks) (facts : Facts) : Type 0 where
  -- if a reached state has stopped, its stop isn't excluded; a step may be executed at each reached state's address
  pub are : AreFacts image quirks facts.left.items facts.executed.items
  -- each reached state that hasn't stopped lies in a row
  pub rows : (s : State) → IsReached image quirks s → s.core.stopped ≡ None
      → Any (λ row. IsInRow facts row s) facts.rows.items
