-- Whether a result is the answer to a question, or the reason why the question has no answer
-- (chosen by this project).
use Rattle.std.specs.Prelude.{◌≡◌, ◌⊎◌, ℕ, List, Result, Ok, Err, IsOk, IsOkAnd, ◌++◌}
use Rattle.chip_session.specs.declared.refusal.Refusal.{Refusal}
use Rattle.chip_session.specs.declared.refusal.Refusal.TheVariants.{AnswerMemory}

-- the error is the first refusal that applies, or `AnswerMemory` if none does
abbrev pub IsUnanswered : Result (List ℕ) Refusal → Refusal → Type 0
IsUnanswered answer e = (answer ≡ Err e) ⊎ ((e ≡ AnswerMemory) × IsOk answer)

-- the answer is appended to the old text; if there is no answer, the text is unchanged and the
-- error is the reason
abbrev pub IsTold : Result (List ℕ) Refusal → Result Unit Refusal → List ℕ → List ℕ → Type 0
IsTold answer (Ok _) before after = IsOkAnd answer (λ bytes. after ≡ before ++ bytes)
IsTold answer (Err e) before after = IsUnanswered answer e × (after ≡ before)

-- the bytes are the answer; if there is no answer, the error is the reason
abbrev pub IsAnswer : Result (List ℕ) Refusal → Result Unit Refusal → List ℕ → Type 0
IsAnswer answer (Ok _) bytes = answer ≡ Ok bytes
IsAnswer answer (Err e) bytes = IsUnanswered answer e
