-- States, stored as their differences from a base.
-- Source: chosen by this project.
--     with_byte       a state with one byte of its memory replaced
--     with_row        rows of pixels with one row replaced
--     parts_of        the parts of a kept state other than its memory and its screen
--     parts_read      the parts after a step that set a register to a value of the delay timer
--     state_with      the state that consists of a base, some parts, and the bytes and rows of a
--                     backdrop
--     state_of        `state_with` for the parts, the bytes and the rows of a kept state
--     state_at        the state that is kept at a place, or the state of the base if there is none
use Rattle.std.specs.Prelude.{ℕ, ◌+◌, ◌*◌, ◌^◌, nat_lt, List, Option, Some, None, fold, length, slice_get, slice_set, if◌then◌else◌}
use Rattle.chip_machine.specs.Limits.{MEMORY_BYTES}
use Rattle.chip_machine.specs.Restored.{with_parts, with_screen}
use Rattle.chip_machine.specs.State.{State, with_memory}
use Rattle.chip_machine.specs.declared.parts.Parts.{Parts}
use Rattle.chip_explore.specs.declared.backdrop.Backdrop.{Backdrop}
use Rattle.chip_explore.specs.declared.backdrop.BytePatch.{BytePatch}
use Rattle.chip_explore.specs.declared.backdrop.RowPatch.{RowPatch}
use Rattle.chip_explore.specs.declared.kept.Base.{Base}
use Rattle.chip_explore.specs.declared.kept.Kept.{Kept}
use Rattle.chip_explore.specs.inner.Delays.{bound_after}

abbrev pub with_byte : State → BytePatch → State
with_byte s patch =
    if nat_lt patch.at MEMORY_BYTES then with_memory s (slice_set s.memory patch.at patch.byte)
    else s

abbrev pub with_row : List ℕ → RowPatch → List ℕ
with_row rows patch =
    if nat_lt patch.row (length rows) then slice_set rows patch.row (patch.left * 2 ^ 64 + patch.right)
    else rows

abbrev pub parts_of : Kept → Parts
parts_of kept =
    record {
      registers = kept.registers;
      index = kept.index;
      pc = kept.pc;
      frames = kept.backdrop.value.frames;
      depth = kept.backdrop.value.depth;
      delay = kept.delay;
      flags = kept.backdrop.value.flags;
      draws = kept.draws;
      high = kept.backdrop.value.high;
    }

abbrev pub parts_read : (register value : ℕ) → Parts → Parts
parts_read register value parts =
    record parts {
      registers = slice_set parts.registers register value;
      pc = parts.pc + 2;
      delay = bound_after value parts.delay;
    }

abbrev pub state_with : Parts → Base → Backdrop → State
state_with parts base backdrop =
    with_screen (fold with_row base.rows.items backdrop.rows.items)
    (fold with_byte (with_parts parts base.machine) backdrop.bytes.items)

abbrev pub state_of : Base → Kept → State
state_of base kept = state_with (parts_of kept) base kept.backdrop.value

abbrev pub state_by : Base → Option Kept → State
state_by base None = base.machine
state_by base (Some kept) = state_of base kept

abbrev pub state_at : Base → List Kept → ℕ → State
state_at base states j = state_by base (slice_get states j)
