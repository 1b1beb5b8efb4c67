-- How far a script has been carried out, for the private contracts behind `serve` (chosen by this
-- project).
use Rattle.std.specs.Prelude.{◌≡◌, ◌⊎◌, ℕ, ◌<◌, List, ◌++◌, length, take, Option, Some, Result, Ok, Err}
use Rattle.std.specs.Io.KnownBytes.{Keeps, Appends}
use Rattle.chip_session.specs.declared.limits.TheConstants.{SCRIPT_BYTES, SCRIPT_LINES}
use Rattle.chip_session.specs.declared.server.TheConstants.{KEPT_LEN}
use Rattle.chip_asm.specs.Lines.{lines_of}
use Rattle.chip_session.specs.Lines.{complete_lines, unfinished_line}
use Rattle.chip_session.specs.Session.{Session}
use Rattle.chip_session.specs.Transcript.{transcript_of, session_after}
use Rattle.chip_session.specs.Serving.{WithinBounds, BeginsWith}
use Rattle.chip_session.specs.declared.server.Conversation.{Conversation}
use Rattle.chip_session.specs.declared.server.ServeError.{ServeError}
use Rattle.chip_session.specs.declared.server.ServeError.TheVariants as fault
use Rattle.chip_session.specs.declared.server.Stop.{Stop}
use Rattle.chip_session.specs.declared.server.Stop.TheVariants.{WriterFailed, OutOfMemory, TooMuchInput}
use Rattle.chip_lang.specs.Meter.{one_more}

-- the error that `serve` returns after the rest of a script was abandoned
abbrev pub fault_of : Stop → ServeError
fault_of WriterFailed = fault.WriterFailed
fault_of OutOfMemory = fault.OutOfMemory
fault_of TooMuchInput = fault.TooMuchInput

-- the failure count of the writer after this result
abbrev pub failures_after : Result Unit Stop → ℕ → ℕ
failures_after (Ok _) failures = failures
failures_after (Err WriterFailed) failures = one_more failures
failures_after (Err OutOfMemory) failures = failures
failures_after (Err TooMuchInput) failures = failures

-- The text was written completely, or up to the writer's failure, or not at all.
abbrev pub Says : Result Unit Stop → Option (List ℕ) → Option (List ℕ) → List ℕ → Type 0
Says (Ok _) held holds text = Appends held holds text
Says (Err WriterFailed) held holds text =
    (front : List ℕ) × BeginsWith text front × Appends held holds front
Says (Err OutOfMemory) held holds text = Keeps held holds
Says (Err TooMuchInput) held holds text = ⊥

-- The state after the bytes `given` of a script that began at `start`, if the writer contained `before`.
pub record Reached (start : Session) (before given : List ℕ) (c : Conversation)
    (holds : Option (List ℕ)) : Type 0 where
  pub session : c.bench.session ≡ session_after start (complete_lines given)
  pub line : c.line.items ≡ take KEPT_LEN (unfinished_line given)
  pub complete : c.complete ≡ length (complete_lines given)
  pub taken : c.taken ≡ length given
  pub within : WithinBounds given
  pub told : holds ≡ Some (before ++ transcript_of start (complete_lines given))

-- The script was abandoned after the bytes `done`; the bytes `more` were already read.
abbrev pub StoppedAt : Stop → Session → List ℕ → List ℕ → List ℕ → Option (List ℕ) → Type 0
StoppedAt WriterFailed start before done more holds =
    (front : List ℕ) × BeginsWith (transcript_of start (complete_lines done)) front
    × (holds ≡ Some (before ++ front))
StoppedAt OutOfMemory start before done more holds =
    holds ≡ Some (before ++ transcript_of start (complete_lines done))
StoppedAt TooMuchInput start before done more holds =
    WithinBounds done × ((length done ≡ SCRIPT_BYTES)
    ⊎ (length (complete_lines done) ≡ SCRIPT_LINES)) × (0 < length more)
    × (holds ≡ Some (before ++ transcript_of start (complete_lines done)))

pub record Stopped (e : Stop) (start : Session) (before given : List ℕ)
    (holds : Option (List ℕ)) : Type 0 where
  pub done : List ℕ
  pub more : List ℕ
  pub split : given ≡ done ++ more
  pub stopped : StoppedAt e start before done more holds

abbrev pub Went : Result Unit Stop → Session → List ℕ → List ℕ → Conversation → Option (List ℕ)
    → Type 0
Went (Ok _) start before given c holds = Reached start before given c holds
Went (Err e) start before given c holds = Stopped e start before given holds

-- The given bytes continue a conversation from any state that it had reached.
abbrev pub Carries : Conversation → Option (List ℕ) → List ℕ → Result Unit Stop → Conversation
    → Option (List ℕ) → Type 0
Carries old held bytes result new holds =
    (start : Session) (before given : List ℕ) → Reached start before given old held
    → Went result start before (given ++ bytes) new holds

-- The reader ended after the bytes `given`.
abbrev pub Ended : Result Unit Stop → Session → List ℕ → List ℕ → Option (List ℕ) → Type 0
Ended (Ok _) start before given holds =
    holds ≡ Some (before ++ transcript_of start (lines_of given))
Ended (Err WriterFailed) start before given holds =
    (front : List ℕ) × BeginsWith (transcript_of start (lines_of given)) front
    × (holds ≡ Some (before ++ front))
Ended (Err OutOfMemory) start before given holds =
    holds ≡ Some (before ++ transcript_of start (complete_lines given))
Ended (Err TooMuchInput) start before given holds = ⊥
