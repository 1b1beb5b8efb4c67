-- The number of lines that an edit of a session reads and encodes (chosen by this project).
use Rattle.std.specs.Prelude.{◌≡◌, ◌≤◌, ◌+◌, ◌-◌, ℕ, List, length, insert, remove, slice_set, Option, None, IsSome}
use Rattle.chip_lang.specs.Meter.{one_more}
use Rattle.chip_lang.specs.declared.meter.Meter.{Meter}
use Rattle.chip_asm.specs.declared.refusal.Refusal.{Refusal as SourceRefusal}
use Rattle.chip_asm.specs.Edits.{insert_refusal, replace_refusal, delete_refusal, before_insert, before_replace, before_delete}
use Rattle.chip_asm.specs.Work.{lines_to_encode}
use Rattle.chip_session.specs.Session.{Edit, insert_line, replace_line, delete_line, insert_event, replace_event, delete_event}

-- A refused edit of the lines costs nothing. Any other edit reads the given number of lines and
-- encodes at most the lines that have to be encoded, even if memory runs out. The count of encoded
-- lines never falls. `origin` maps each line to its place before the edit.
pub record LineCosts (refusal : Option SourceRefusal) (reads : ℕ → ℕ) (old new : List (List ℕ))
    (origin : ℕ → Option ℕ) (before after : Meter) : Type 0 where
  pub refused : IsSome refusal → after ≡ before
  pub parsed : refusal ≡ None → after.parsed ≡ reads before.parsed
  pub encoded : after.encoded ≤ before.encoded + lines_to_encode old new origin
  pub not_lowered : before.encoded ≤ after.encoded

-- the cost of an edit in a session with these lines; editing the key events costs nothing
abbrev pub Costs : Edit → List (List ℕ) → Meter → Meter → Type 0
Costs (insert_line number text) lines before after =
    LineCosts (insert_refusal (length lines) number text) one_more lines
    (insert lines (number - 1) text) (before_insert (number - 1)) before after
Costs (replace_line number text) lines before after =
    LineCosts (replace_refusal (length lines) number text) one_more lines
    (slice_set lines (number - 1) text) (before_replace (number - 1)) before after
Costs (delete_line number) lines before after =
    LineCosts (delete_refusal (length lines) number) (λ parsed. parsed) lines
    (remove lines (number - 1)) (before_delete (number - 1)) before after
Costs (insert_event step key down) lines before after = after ≡ before
Costs (replace_event step key down) lines before after = after ≡ before
Costs (delete_event step key) lines before after = after ≡ before
