-- The numbers that messages print for causes: S1 to S7 for a stop, and M1 to M3 for a machine that
-- could not start.
-- Source: chosen by this project.
use Rattle.std.specs.Prelude.{ℕ}
use Rattle.chip_machine.specs.declared.stop.Stop.{Stop}
use Rattle.chip_machine.specs.declared.stop.Stop.TheVariants as cause
use Rattle.chip_machine.specs.declared.machine.StartError.{StartError}
use Rattle.chip_machine.specs.declared.machine.StartError.TheVariants as start

abbrev pub stop_number : Stop → ℕ
stop_number cause.Exit = 1
stop_number cause.NoInstruction = 2
stop_number cause.PcOutOfRange = 3
stop_number cause.FramesFull = 4
stop_number cause.NoFrame = 5
stop_number cause.AddressOutOfRange = 6
stop_number cause.NoFlag = 7

abbrev pub start_error_number : StartError → ℕ
start_error_number start.ImageTooLong = 1
start_error_number start.BadTape = 2
start_error_number start.Alloc = 3
