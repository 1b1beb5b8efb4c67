-- The output of `trace` for a session's run, alone or compared with the lines of another trace
-- (chosen by this project).
use Rattle.std.specs.Prelude.{◌≡◌, ℕ, ◌||◌, Bool, List, [], ◌∷◌, is_none, nat_lt, Option, Some, None, if◌then◌else◌}
use Rattle.chip_asm.specs.Program.{image_of}
use Rattle.chip_replay.specs.Limits.{last_step}
use Rattle.chip_trace.specs.Difference.{IsComparison, IsDifferenceText}
use Rattle.chip_trace.specs.Lines.{trace_lines, trace_text}
use Rattle.chip_trace.specs.Machine.{names_machine}
use Rattle.chip_trace.specs.declared.difference.Difference.{Difference}
use Rattle.chip_session.specs.Answers.{machine_of}
use Rattle.chip_host.specs.Printing.{Printed, printed, printed_faults}
use Rattle.chip_bench.specs.Printing.{unanswered}
use Rattle.chip_session.specs.Session.{Session}
use Rattle.chip_host.specs.declared.ending.Ending.TheVariants.{Done, Faulty}
use Rattle.chip_session.specs.declared.refusal.Refusal.{Refusal}
use Rattle.chip_session.specs.declared.refusal.Refusal.TheVariants.{NoImage, StepPastLast}
use Rattle.chip_bench.specs.declared.tracing.Shown.{Shown}

-- the trace begins or ends past the last step of a run
abbrev pub is_past_last : Shown → Bool
is_past_last shown = nat_lt last_step shown.from || nat_lt last_step shown.to

-- the reason why the session's run can't be traced, if there is one
abbrev pub trace_refusal : Session → Shown → Option Refusal
trace_refusal session shown =
    if is_none (image_of session.lines) then Some NoImage
    else (if is_past_last shown then Some StepPastLast else None)

-- the trace of the session's run
abbrev pub trace_of : Session → Shown → List ℕ
trace_of session shown =
    trace_text shown.form session.settings.quirks shown.columns (machine_of session) shown.from
    shown.to

abbrev pub trace_unless : Option Refusal → Session → Shown → Printed
trace_unless (Some why) session shown = unanswered why (printed_faults session.lines)
trace_unless None session shown = printed (trace_of session shown) Done

-- `trace`: the trace of the session's run, or the reason why there is none
abbrev pub printed_trace : Session → Shown → Printed
printed_trace session shown = trace_unless (trace_refusal session shown) session shown

-- the output of a comparison: nothing if all lines agree, and otherwise where they first differ
abbrev pub IsReport : (from : ℕ) → Option Difference → Printed → Type 0
IsReport from None wanted = wanted ≡ printed [] Done
IsReport from (Some found) wanted =
    (wanted.ending ≡ Faulty) × IsDifferenceText from found wanted.text

-- the comparison of the session's run with the lines of another trace
abbrev pub IsBeside : Session → Shown → (theirs : List (List ℕ)) → Printed → Type 0
IsBeside session shown theirs wanted =
    (found : Option Difference)
    × IsComparison (trace_lines shown.form shown.columns (machine_of session) shown.from shown.to)
    theirs found
    × IsReport shown.from found wanted

abbrev pub IsComparedUnless : Option Refusal → Session → Shown → (theirs : List (List ℕ)) → Printed
    → Type 0
IsComparedUnless (Some why) session shown theirs wanted =
    wanted ≡ unanswered why (printed_faults session.lines)
IsComparedUnless None session shown theirs wanted = IsBeside session shown theirs wanted

-- `trace --against`: the output of the comparison with another trace, or the reason why there is none
abbrev pub IsCompared : Session → Shown → (theirs : List (List ℕ)) → Printed → Type 0
IsCompared session shown theirs wanted =
    IsComparedUnless (trace_refusal session shown) session shown theirs wanted

-- the lines of a trace, without the line that names the machine if there is one
abbrev pub below_machine : List (List ℕ) → List (List ℕ)
below_machine [] = []
below_machine (line ∷ lines) = if names_machine line then lines else (line ∷ lines)

-- the header of those lines, which names the columns, and the lines after it
abbrev pub header_of : List (List ℕ) → List ℕ
header_of [] = []
header_of (line ∷ lines) = line

abbrev pub lines_after : List (List ℕ) → List (List ℕ)
lines_after [] = []
lines_after (line ∷ lines) = lines
