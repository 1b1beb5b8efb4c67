-- The reply to each line of a script, and the transcript of the script (chosen by this project).
use Rattle.std.specs.Prelude.{◌≡◌, ◌⊎◌, ℕ, List, [], ◌∷◌, ◌++◌, Option, Some, None, Result, Ok, Err, codes}
use Rattle.chip_session.specs.Session.{Text, Session, edited}
use Rattle.chip_session.specs.Answers.{answer_to}
use Rattle.chip_session.specs.Commands.{Command, blank, edit, ask, command_of}
use Rattle.chip_session.specs.declared.refusal.Refusal.{Refusal}
use Rattle.chip_session.specs.Refusals.{refusal_code}
use Rattle.chip_session.specs.declared.command.CommandFault.{CommandFault}
use Rattle.chip_session.specs.declared.command.CommandFault.TheVariants.{Unknown, TooLong}
use Rattle.chip_session.specs.declared.refusal.Refused.{Refused}
use Rattle.chip_session.specs.declared.refusal.Refused.TheVariants as why

abbrev pub fault_code : CommandFault → Text
fault_code Unknown = codes "C1"
fault_code TooLong = codes "C2"

abbrev pub refused : Text → List ℕ
refused code = codes "no " ++ (code ++ 10 ∷ [])

-- the code of a refused line
abbrev pub refused_code : Refused → Text
refused_code (why.Line fault) = fault_code fault
refused_code (why.Command refusal) = refusal_code refusal

abbrev pub edit_reply : Result Session Refusal → List ℕ
edit_reply (Ok next) = codes "ok" ++ 10 ∷ []
edit_reply (Err why) = refused (refusal_code why)

abbrev pub ask_reply : Result (List ℕ) Refusal → List ℕ
ask_reply (Ok bytes) = bytes
ask_reply (Err why) = refused (refusal_code why)

-- the answer to a command, or to a line that is not a command
abbrev pub command_reply : Session → Result Command CommandFault → List ℕ
command_reply session (Err fault) = refused (fault_code fault)
command_reply session (Ok blank) = []
command_reply session (Ok (edit c)) = edit_reply (edited session c)
command_reply session (Ok (ask question)) = ask_reply (answer_to session question)

abbrev pub edit_after : Session → Result Session Refusal → Session
edit_after session (Ok next) = next
edit_after session (Err why) = session

-- the session after a command; a refused command leaves the session unchanged
abbrev pub command_after : Session → Result Command CommandFault → Session
command_after session (Err fault) = session
command_after session (Ok blank) = session
command_after session (Ok (edit c)) = edit_after session (edited session c)
command_after session (Ok (ask question)) = session

-- the reason why an edit or a question is refused, if it is
abbrev pub refusal_of : {A : Type 0} → Result A Refusal → Option Refused
refusal_of (Ok _) = None
refusal_of (Err refusal) = Some (why.Command refusal)

-- the reason why a command is refused, or why a line is not a command
abbrev pub command_refusal : Session → Result Command CommandFault → Option Refused
command_refusal session (Err fault) = Some (why.Line fault)
command_refusal session (Ok blank) = None
command_refusal session (Ok (edit c)) = refusal_of (edited session c)
command_refusal session (Ok (ask question)) = refusal_of (answer_to session question)

unfoldable pub reply : Session → Text → List ℕ
reply session line = command_reply session (command_of line)

unfoldable pub after : Session → Text → Session
after session line = command_after session (command_of line)

-- if memory runs out at a line, the session is as before the line or as after it
abbrev pub IsBeforeOrAfter : Session → Text → Session → Type 0
IsBeforeOrAfter session line next = (next ≡ session) ⊎ (next ≡ after session line)

unfoldable pub refusal : Session → Text → Option Refused
refusal session line = command_refusal session (command_of line)

-- the answers to the lines of a script, in order
abbrev pub transcript_of : Session → List Text → List ℕ
transcript_of session [] = []
transcript_of session (line ∷ script) =
    reply session line ++ transcript_of (after session line) script

-- the session after the lines of a script
abbrev pub session_after : Session → List Text → Session
session_after session [] = session
session_after session (line ∷ script) = session_after (after session line) script
