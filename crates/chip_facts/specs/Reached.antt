-- The states that a machine with an image can reach, with any keys down, any bytes on the tape and any
-- ticks of the timers.
-- Source: chosen by this project.
--     IsByteTape      a tape of bytes
--     IsReached       a state that some combination of keys, tape and ticks leads to
use Rattle.std.specs.Prelude.{ℕ, ◌<◌, Bool, List, slice_index}
use Rattle.chip_machine.specs.declared.quirks.Quirks.{Quirks}
use Rattle.chip_machine.specs.Start.{IsTape, start_of}
use Rattle.chip_machine.specs.State.{State}
use Rattle.chip_machine.specs.Step.{step_of}

abbrev pub IsByteTape : List ℕ → Type 0
IsByteTape tape = IsTape tape × ((i : ℕ) → slice_index tape i < 256)

-- a state at the start, or a state that follows a reached state with any keys, with or without a tick
pub data IsReached (image : List ℕ) (quirks : Quirks) : State → Type 0 where
  starts : (tape : List ℕ) → IsByteTape tape → IsReached image quirks (start_of image tape quirks)
  steps : (s : State) → IsReached image quirks s → (keys : ℕ) (tick : Bool)
      → IsReached image quirks (step_of s keys tick)
