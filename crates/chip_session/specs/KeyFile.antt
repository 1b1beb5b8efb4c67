-- The key events of a file, each line read as a command of a script (chosen by this project).
use Rattle.std.specs.Prelude.{◌≡◌, ℕ, ◌+◌, List, [], ◌∷◌, Option, Some, None, Result, Ok, Err}
use Rattle.chip_files.specs.KeyLines.{key_commands}
use Rattle.chip_session.specs.Session.{Text, Session, edited}
use Rattle.chip_session.specs.Commands.{Command, blank, edit, ask, command_of}
use Rattle.chip_session.specs.Refusals.{refusal_code}
use Rattle.chip_session.specs.Transcript.{fault_code, after, session_after}
use Rattle.chip_session.specs.declared.command.CommandFault.{CommandFault}
use Rattle.chip_session.specs.declared.refusal.Refusal.{Refusal}
use Rattle.chip_session.specs.declared.key_file.KeyFileError.{KeyFileError}
use Rattle.chip_session.specs.declared.key_file.KeyFileError.TheVariants.{Line, OutOfMemory}

-- the code of a refused edit
abbrev pub edit_refusal : Result Session Refusal → Option Text
edit_refusal (Ok next) = None
edit_refusal (Err why) = Some (refusal_code why)

-- the code of a refused edit, or of a line that is not a command
abbrev pub command_refusal : Session → Result Command CommandFault → Option Text
command_refusal session (Err fault) = Some (fault_code fault)
command_refusal session (Ok blank) = None
command_refusal session (Ok (edit c)) = edit_refusal (edited session c)
command_refusal session (Ok (ask question)) = None

unfoldable pub refusal_to : Session → Text → Option Text
refusal_to session line = command_refusal session (command_of line)

-- the refusal of a line, with the line's number, or otherwise the refusal of a later line
abbrev pub refused_or_later : Option Text → ℕ → Option (ℕ × Text) → Option (ℕ × Text)
refused_or_later (Some code) number later = Some (number, code)
refused_or_later None number later = later

-- the first refused line of a script, with its code; `number` is the number of the script's first line
abbrev pub first_refusal : Session → ℕ → List Text → Option (ℕ × Text)
first_refusal session number [] = None
first_refusal session number (line ∷ script) =
    refused_or_later (refusal_to session line) number
    (first_refusal (after session line) (number + 1) script)

-- the number and the code of a file's first refused line, if there is one
unfoldable pub key_fault : Session → List ℕ → Option (ℕ × Text)
key_fault session file = first_refusal session 1 (key_commands file)

-- the session after the lines of a key file
unfoldable pub session_under : Session → List ℕ → Session
session_under session file = session_after session (key_commands file)

-- why the key events of a file can't be added: its first refused line, or out of memory, which may
-- happen before that line
abbrev pub IsKeyFault : Option (ℕ × Text) → KeyFileError → Type 0
IsKeyFault fault (Line number code) = fault ≡ Some (number, code.now)
IsKeyFault fault OutOfMemory = Unit {0}
