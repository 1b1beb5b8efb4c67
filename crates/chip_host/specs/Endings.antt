-- The endings of commands, and the reasons why commands fail (chosen by this project).
--     Outcome                        the ending of a command, or the reason why it failed
--     ending_status, failure_status  the program's status after an ending or a failure
--     settings_failure, arguments_failure     the failure for an error of settings or of arguments
--     IsShort, is_bad_tape, IsUnsettled, IsUnread, IsUnreadWithin, IsUnwritten    memory ran out; a tape is
--                                    bad; the settings are bad; a file can't be read, or written
--     IsFileWritten, IsSomeWritten   a file was written, or couldn't be; some bytes were written
use Rattle.std.specs.Prelude.{◌≡◌, ◌⊎◌, ℕ, Bool, true, false, List, Result, Ok, IsErrAnd}
use Rattle.std.specs.Borrow.{Bor}
use Rattle.std.specs.declared.io.Error.{Error as IoError}
use Rattle.chip_host.specs.declared.ending.Ending.{Ending}
use Rattle.chip_host.specs.declared.ending.Ending.TheVariants.{Done, Faulty, Short}
use Rattle.chip_host.specs.declared.ending.Failure.{Failure}
use Rattle.chip_host.specs.declared.ending.Failure.TheVariants as failure
use Rattle.chip_host.specs.declared.ending.TapeFault.TheVariants as tape
use Rattle.clap.specs.declared.error.Error.{Error}
use Rattle.clap.specs.declared.error.kind.ErrorKind.{ErrorKind}
use Rattle.clap.specs.declared.error.kind.ErrorKind.TheVariants as kind
use Rattle.chip_session.specs.declared.settings.SetError.{SetError}
use Rattle.chip_session.specs.declared.settings.SetError.TheVariants as set

abbrev pub Outcome : Type 0
Outcome = Result Ending Failure

-- the status after an ending, if the flush at the end succeeded
abbrev pub ending_status : Ending → ℕ
ending_status Done = 0
ending_status Faulty = 1
ending_status Short = 4

-- the status after a failure: 3 for a file, input or output, 4 if memory ran out, and otherwise 2; the
-- cause of 2 is the arguments, or a file of key events or a trace that the arguments name
abbrev pub failure_status : Failure → ℕ
failure_status (failure.CannotRead name error) = 3
failure_status (failure.TooLong name most) = 3
failure_status (failure.CannotWrite name error) = 3
failure_status (failure.BadTest name line fault) = 3
failure_status (failure.UnreadInTest name line error) = 3
failure_status failure.Input = 3
failure_status failure.Output = 3
failure_status failure.TooMuchInput = 3
failure_status failure.OutOfMemory = 4
failure_status _ = 2

abbrev pub settings_failure : SetError → Failure
settings_failure set.OutOfMemory = failure.OutOfMemory
settings_failure _ = failure.BadTape tape.Length

-- the failure of the program if `clap` returns an error of that kind
abbrev pub arguments_failure : ErrorKind → Error → Failure
arguments_failure kind.OutOfMemory error = failure.OutOfMemory
arguments_failure _ error = failure.Usage error

-- memory ran out
abbrev pub IsShort : Failure → Type 0
IsShort why = why ≡ failure.OutOfMemory

-- whether the tape is bad; no contract states which fault of the tape is reported
abbrev pub is_bad_tape : Failure → Bool
is_bad_tape (failure.BadTape fault) = true
is_bad_tape _ = false

-- the settings are bad, or memory ran out
abbrev pub IsUnsettled : Failure → Type 0
IsUnsettled why = (is_bad_tape why ≡ true) ⊎ (why ≡ failure.OutOfMemory)

-- the possible failures of reading a file with this name
abbrev pub IsUnread : Bor (List ℕ) → Failure → Type 0
IsUnread name hindrance =
    (hindrance ≡ failure.OutOfMemory)
    ⊎ ((why : IoError) × (hindrance ≡ failure.CannotRead name why))

-- the possible failures of reading a file with this name that may contain at most this many bytes
abbrev pub IsUnreadWithin : (most : ℕ) → Bor (List ℕ) → Failure → Type 0
IsUnreadWithin most name hindrance =
    IsUnread name hindrance ⊎ (hindrance ≡ failure.TooLong name most)

-- the possible failures of writing a file with this name
abbrev pub IsUnwritten : Bor (List ℕ) → Failure → Type 0
IsUnwritten name why =
    (why ≡ failure.OutOfMemory) ⊎ ((because : IoError) × (why ≡ failure.CannotWrite name because))

-- a file with this name was written, or writing it failed
abbrev pub IsFileWritten : Bor (List ℕ) → Outcome → Type 0
IsFileWritten name ended = (ended ≡ Ok Done) ⊎ IsErrAnd ended (IsUnwritten name)

abbrev pub IsSomeWritten : (wrote : List ℕ → Type 0) → Type 0
IsSomeWritten wrote = (bytes : List ℕ) × wrote bytes
