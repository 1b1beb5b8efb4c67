-- The effects and the results of `session_answer` and `session_read` (chosen by this project).
use Rattle.std.specs.Prelude.{◌≡◌, ◌⊎◌, ℕ, List, Option, None, MatchOption, take, drop}
use Rattle.chip_session.specs.Session.{Text}
use Rattle.chip_session.specs.Transcript.{reply, after, IsBeforeOrAfter}
use Rattle.chip_web.specs.declared.opened.Opened.{Opened}
use Rattle.chip_web.specs.declared.status.TheConstants.{DONE, NO_MEMORY, NO_SESSION}

-- A line was executed: the answer and the session afterwards are the same as in a script.
abbrev pub IsCarriedOut : Opened → Text → Opened → Type 0
IsCarriedOut before line next =
    (next.answer.items ≡ reply before.bench.session line)
    × (next.bench.session ≡ after before.bench.session line)

-- The status reports that a line was executed, or that memory ran out. If memory ran out, the
-- session is in the state before the line or in the state after the line.
abbrev pub AnswersOpened : ℕ → Opened → Text → Opened → Type 0
AnswersOpened status before line next =
    ((status ≡ DONE) × IsCarriedOut before line next)
    ⊎ ((status ≡ NO_MEMORY)
    × IsBeforeOrAfter before.bench.session line next.bench.session)

-- If there is no session, nothing happens, and there is none afterwards. If there is a session,
-- there is one afterwards, and the status reports what happened.
abbrev pub Answers : ℕ → Option Opened → Text → Option Opened → Type 0
Answers status before line next =
    MatchOption before ((status ≡ NO_SESSION) × (next ≡ None))
    (λ opened. MatchOption next ⊥ (AnswersOpened status opened line))

-- the bytes of an answer from an index on, as many as fit
abbrev pub bytes_read : List ℕ → ℕ → ℕ → List ℕ
bytes_read answer from room = take room (drop from answer)
