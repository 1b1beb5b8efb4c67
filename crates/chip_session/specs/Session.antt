-- A session: the current lines of the source, the current key events, and the settings (chosen by
-- this project).
use Rattle.std.specs.Prelude.{◌≡◌, ◌⊎◌, IsOk, ℕ, ◌-◌, Bool, List, length, insert, remove, slice_set, Option, Some, None, Result, Ok, Err}
use Rattle.std.specs.FinMap as map
use Rattle.chip_asm.specs.Edits.{insert_refusal, replace_refusal, delete_refusal}
use Rattle.chip_asm.specs.Lines.{lines_of}
use Rattle.chip_asm.specs.declared.refusal.Refusal.{Refusal as SourceRefusal}
use Rattle.chip_asm.specs.declared.refusal.Refusal.TheVariants.{OutOfMemory as no_line_memory}
use Rattle.chip_replay.specs.declared.keys.KeyFault.{KeyFault}
use Rattle.chip_replay.specs.declared.keys.KeyFault.TheVariants.{OutOfMemory as no_event_memory}
use Rattle.chip_replay.specs.declared.keys.Moment.{Moment}
use Rattle.chip_replay.specs.Keys.{Events, insert_fault, edit_fault}
use Rattle.chip_session.specs.Settings.{SessionSettings}
use Rattle.chip_session.specs.declared.refusal.Refusal.{Refusal}
use Rattle.chip_session.specs.declared.refusal.Refusal.TheVariants.{Source, Keys}

abbrev pub Text : Type 0
Text = List ℕ

pub record Session : Type 0 where
  pub lines : List Text
  pub keys : Events
  pub settings : SessionSettings

abbrev pub session_with : List Text → Events → SessionSettings → Session
session_with lines keys settings = record { lines = lines; keys = keys; settings = settings }

-- the session of a source that opens, without key events
abbrev pub session_of : SessionSettings → List ℕ → Session
session_of settings bytes = record { lines = lines_of bytes; keys = map.empty; settings = settings }

-- an edit of one line, given by its number from 1, or of one key event, given by its step and key
pub data Edit : Type 0 where
  insert_line : ℕ → Text → Edit
  replace_line : ℕ → Text → Edit
  delete_line : ℕ → Edit
  insert_event : (step key : ℕ) → Bool → Edit
  replace_event : (step key : ℕ) → Bool → Edit
  delete_event : (step key : ℕ) → Edit

-- the session with these lines, if the edit isn't refused
abbrev pub with_lines : Session → Option SourceRefusal → List Text → Result Session Refusal
with_lines session None lines = Ok (record session { lines = lines })
with_lines session (Some why) lines = Err (Source why)

-- the session with these events, if the edit isn't refused
abbrev pub with_events : Session → Option KeyFault → Events → Result Session Refusal
with_events session None events = Ok (record session { keys = events })
with_events session (Some why) events = Err (Keys why)

-- the step and the key of an event
abbrev pub moment : ℕ → ℕ → Moment
moment step key = record { key = key; step = step }

-- the session after an edit, or the first refusal that applies
abbrev pub edited : Session → Edit → Result Session Refusal
edited session (insert_line number text) =
    with_lines session (insert_refusal (length session.lines) number text)
    (insert session.lines (number - 1) text)
edited session (replace_line number text) =
    with_lines session (replace_refusal (length session.lines) number text)
    (slice_set session.lines (number - 1) text)
edited session (delete_line number) =
    with_lines session (delete_refusal (length session.lines) number)
    (remove session.lines (number - 1))
edited session (insert_event step key down) =
    with_events session (insert_fault session.keys step key)
    (map.insert session.keys (moment step key) down)
edited session (replace_event step key down) =
    with_events session (edit_fault session.keys step key)
    (map.insert session.keys (moment step key) down)
edited session (delete_event step key) =
    with_events session (edit_fault session.keys step key)
    (map.remove session.keys (moment step key))

-- an edit may need memory unless it replaces or deletes an event
abbrev pub TakesMemory : Edit → Type 0
TakesMemory (replace_event step key down) = ⊥
TakesMemory (delete_event step key) = ⊥
TakesMemory edit = Unit {0}

-- the refusal of an edit that runs out of memory
abbrev pub memory_refusal : Edit → Refusal
memory_refusal (insert_event step key down) = Keys no_event_memory
memory_refusal (replace_event step key down) = Keys no_event_memory
memory_refusal (delete_event step key) = Keys no_event_memory
memory_refusal edit = Source no_line_memory

-- the reason why an edit is refused: the first refusal that applies, or a lack of memory if none does
abbrev pub IsRefused : Session → Edit → Refusal → Type 0
IsRefused session edit e =
    (edited session edit ≡ Err e)
    ⊎ ((e ≡ memory_refusal edit) × TakesMemory edit × IsOk (edited session edit))
