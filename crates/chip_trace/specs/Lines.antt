-- The lines of a trace (chosen by this project).
use Rattle.std.specs.Prelude.{◌≡◌, ◌↔◌, ◌<◌, ◌≤◌, IsTrue, ℕ, ◌+◌, ◌-◌, Bool, true, false, List, [], ◌∷◌, ◌++◌, map, take, drop, length, is_some, nat_le, ◌||◌, if◌then◌else◌}
use Rattle.std.specs.List.{flat_map, range_with_len}
use Rattle.chip_machine.specs.State.{State}
use Rattle.chip_machine.specs.Step.{step_of}
use Rattle.chip_machine.specs.declared.quirks.Quirks.{Quirks}
use Rattle.chip_replay.specs.History.{History, state_at}
use Rattle.chip_replay.specs.Run.{first_below}
use Rattle.chip_trace.specs.Form.{header_lines, row_of}
use Rattle.chip_trace.specs.declared.column.Column.{Column}
use Rattle.chip_trace.specs.declared.form.Form.{Form}

-- the step at which a trace ends: the first step, at least `from` and below `to`, at which the machine has
-- stopped; if there is none, `to`; and `from` if `to` isn't above it
unfoldable pub trace_end : (state : ℕ → State) (from to : ℕ) → ℕ
trace_end state from to =
    from + first_below (λ k. is_some (state (from + k)).core.stopped) (to - from)

-- the lines of the steps from `from` to before the end, and the last line, which shows the state at the end
unfoldable pub trace_lines : Form → List Column → (state : ℕ → State) (from to : ℕ)
    → List (List ℕ)
trace_lines form columns state from to =
    let end = trace_end state from to in
    map (λ step. row_of form columns step (state step) false) (range_with_len from (end - from))
    ++ row_of form columns end (state end) true ∷ []

-- the lines as one text, with a newline after each line
abbrev pub newline_ended : List (List ℕ) → List ℕ
newline_ended lines = flat_map (λ line. line ++ 10 ∷ []) lines

-- the text of a whole trace of a machine, with its header lines
abbrev pub trace_text : Form → Quirks → List Column → (state : ℕ → State) (from to : ℕ) → List ℕ
trace_text form quirks columns state from to =
    newline_ended (header_lines form quirks columns ++ trace_lines form columns state from to)

-- the state at each step of a run
abbrev pub states_of : History State → ℕ → State
states_of history step = state_at step_of history step

-- The progress of a trace from which some lines were taken. The lines starting at step `next` remain, or no
-- lines if the trace is done.
pub record Progress : Type 0 where
  pub columns : List Column
  pub form : Form
  pub next : ℕ
  pub to : ℕ
  pub is_done : Bool

-- the remaining lines, given the state at each step
unfoldable pub remaining : (state : ℕ → State) → Progress → List (List ℕ)
remaining state trace =
    if trace.is_done then []
    else trace_lines trace.form trace.columns state trace.next trace.to

-- whether two runs have the same start state, rate, spacing of checkpoints and key events, and the second one has
-- kept what the first one knew and counted
pub record SameRun (old new : History State) : Type 0 where
  pub start : new.start ≡ old.start
  pub rate : new.rate ≡ old.rate
  pub spacing : new.spacing ≡ old.spacing
  pub keys : new.keys ≡ old.keys
  pub reach : old.reach ≤ new.reach
  pub ran : old.ran ≤ new.ran

-- the effect of taking a line: if lines remain, the first one is added to the text, and the lines after it
-- remain; otherwise nothing changes. `answer` is whether a line was added.
abbrev pub TakesLine : (before : List (List ℕ)) (answer : Bool) (text text_after : List ℕ)
    (after : List (List ℕ)) → Type 0
TakesLine [] answer text text_after after =
    (answer ≡ false) × (text_after ≡ text) × (after ≡ [])
TakesLine (line ∷ lines) answer text text_after after =
    (answer ≡ true) × (text_after ≡ text ++ line) × (after ≡ lines)

-- whether the text added to a text is the line of a step. `is_last` must be true if and only if this line
-- is the last line of a trace that ends at the step `to`
pub record IsLineAt (form : Form) (columns : List Column) (state : ℕ → State) (step to : ℕ)
    (is_last : Bool) (text text_after : List ℕ) : Type 0 where
  pub added : text_after ≡ text ++ row_of form columns step (state step) is_last
  pub last : is_last ≡ (nat_le to step || is_some (state step).core.stopped)

-- the effect of taking up to `most` lines: each line is added to the text with a newline, the lines after
-- them remain, and `more` is whether any lines remain
pub record TakesLines (state : ℕ → State) (most : ℕ) (old new : Progress) (text text_after : List ℕ)
    (more : Bool) : Type 0 where
  pub added : text_after ≡ text ++ newline_ended (take most (remaining state old))
  pub left : remaining state new ≡ drop most (remaining state old)
  pub answer : IsTrue more ↔ (most < length (remaining state old))
