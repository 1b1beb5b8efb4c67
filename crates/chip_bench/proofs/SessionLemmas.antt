-- The effects of a session, and the reasons why a question isn't answered.
use Rattle.std.proofs.Common.{◌≡◌, ◌∙◌, inl, inr, ap, ℕ, List, Option, None, Some, Result, Ok, Err, IfOk, refl, subst, sym}
use Rattle.std.specs.Prelude.{IsErr, IsOkAnd}
use Rattle.chip_asm.specs.Lines.{lines_of, open_fault}
use Rattle.chip_asm.specs.Program.{image_of}
use Rattle.chip_asm.specs.declared.refusal.OpenError.{OpenError}
use Rattle.chip_asm.specs.declared.refusal.OpenError.TheVariants as unopened
use Rattle.std.specs.Borrow.{Bor}
use Rattle.chip_session.specs.KeyFile.{key_fault, session_under}
use Rattle.chip_session.specs.IsAnswer.{IsUnanswered}
use Rattle.chip_session.specs.Session.{Session, session_of}
use Rattle.chip_session.specs.Settings.{SessionSettings}
use Rattle.chip_session.specs.Tally.{Tally}
use Rattle.chip_session.specs.declared.refusal.Refusal.{Refusal}
use Rattle.chip_session.specs.declared.refusal.Refusal.TheVariants.{AnswerMemory}
use Rattle.chip_host.specs.Endings.{Outcome}
use Rattle.chip_bench.specs.Doing.{WritesBy}
use Rattle.chip_host.specs.Printing.{Printed, Refuses, IsUnopened, printed_by}
use Rattle.chip_bench.specs.Printing.{UnlessRefused, WithSession, answer_or_why, both_answers, unanswered}
use Rattle.chip_bench.specs.inner.Written.{IsFoundWritten, IsImageWritten}
use Rattle.chip_bench.specs.inner.Reads.{IsRefused, IsSessionOf, IsUnmade}
use Rattle.chip_host.specs.declared.printing.Answer.{Answer}
use Rattle.chip_host.specs.declared.ending.Ending.{Ending}
use Rattle.chip_host.specs.declared.ending.Ending.TheVariants.{Done, Faulty, Short}
use Rattle.chip_host.specs.declared.ending.Failure.{Failure}
use Rattle.chip_host.specs.declared.ending.Failure.TheVariants as failure
use Rattle.chip_host.proofs.OpenedLemmas.{refused, false_is_true}

module _ {W : Type 0} (contents : W → Option (List ℕ)) (old new : Tally W) where
  module _ (settings : SessionSettings) (source keys : List ℕ) (Did : Session → Outcome → Type 0) (ended : Outcome) where
    -- a session was opened, and had these effects
    pub with_session : (s : Session) → IsSessionOf settings source keys s → Did s ended → WithSession contents old new settings source keys Did ended
    with_session s is did = inl (rw (is.opens, is.made) (subst (λ (t : Session). Did t ended) is.is did))

    -- the source doesn't open
    pub without_session : (e : OpenError) → IsUnopened source e → Refuses contents old new e ended → WithSession contents old new settings source keys Did ended
    without_session e (inl memory) r =
        let r' : Refuses contents old new unopened.OutOfMemory ended = subst (λ (o : OpenError). Refuses contents old new o ended) memory r in
        inr (r'.0, r'.1)
    without_session e (inr found) r = inl (rw found (refused contents old new e ended r))

    -- the key events can't be added
    pub unmade_session : (why : Failure) → ended ≡ Err why → IsUnmade settings source keys why → new ≡ old → WithSession contents old new settings source keys Did ended
    unmade_session why e (inl short) same = inr (e ∙ ap (λ w. Err w) short, same)
    unmade_session why e (inr (opens, line)) same = inl (rw opens (by_line (key_fault (session_of settings source) keys) why e line))
      where
        by_line : (fault : Option (ℕ × List ℕ)) (why : Failure) → ended ≡ Err why → IsRefused fault why →
            UnlessRefused contents old new fault (Did (session_under (session_of settings source) keys)) ended
        by_line fault (failure.BadKeys name number code) e is = rw (is, e) (refl, same)
        by_line fault _ e is = absurd is

  -- a source that doesn't open never leads to the ending `Done`
  pub not_done : (e : OpenError) (ended : Outcome) → Refuses contents old new e ended → ended ≡ Ok Done → ⊥
  not_done (unopened.LineTooLong n) ended r done = let printed = rw done at r in other printed.0
    where
      other : Done ≡ Faulty → ⊥
      other h = cc
  not_done unopened.TooManyLines ended r done = let printed = rw done at r in other printed.0
    where
      other : Done ≡ Faulty → ⊥
      other h = cc
  not_done unopened.OutOfMemory ended r done = short (sym done ∙ r.0)
    where
      short : ◌≡◌ {A = Outcome} (Ok Done) (Err failure.OutOfMemory) → ⊥
      short h = cc

  -- memory ran out for the output
  pub writes_short : (ending : Ending) (wanted : Printed) (name : Bor (List ℕ)) (ended : Outcome) → ended ≡ Err failure.OutOfMemory → new ≡ old →
      WritesBy contents old new ending wanted name ended
  writes_short Done wanted name ended e same = (rw e (inr (inl refl)), same)
  writes_short Faulty wanted name ended e same = rw e same
  writes_short Short wanted name ended e same = rw e same

-- the image of a source that opens was written
pub image_written : (wrote : List ℕ → Type 0) (source : List ℕ) (lines : List (List ℕ)) → open_fault source ≡ None → lines ≡ lines_of source →
    IsFoundWritten wrote (image_of lines) → IsImageWritten wrote
image_written wrote source lines opens same written =
    by_image (image_of (lines_of source)) refl (subst (λ (l : List (List ℕ)). IsFoundWritten wrote (image_of l)) same written)
  where
    by_image : (image : Option (List ℕ)) → image_of (lines_of source) ≡ image → IsFoundWritten wrote image → IsImageWritten wrote
    by_image None e written = absurd written
    by_image (Some image) e written = (source, (image, rw opens e, written))

-- a session on a source, under the key events of a file
pub session_is : (settings : SessionSettings) (source keys file : List ℕ) (opened under : Session) → open_fault source ≡ None →
    opened ≡ session_of settings source → file ≡ keys → key_fault opened file ≡ None → under ≡ session_under opened file →
    IsSessionOf settings source keys under
session_is settings source keys file opened under opens is same made later = record {
  opens = opens;
  made = rw (is, same) at made;
  is = rw (is, same) at later;
}

-- a line of a key file is refused
pub unmade_is : (settings : SessionSettings) (source keys file : List ℕ) (opened : Session) (line : ℕ × List ℕ) → open_fault source ≡ None →
    opened ≡ session_of settings source → file ≡ keys → key_fault opened file ≡ Some line →
    (open_fault source ≡ None) × (key_fault (session_of settings source) keys ≡ Some line)
unmade_is settings source keys file opened line opens is same fault = (opens, rw (is, same) at fault)

-- the reason why a question isn't answered, unless memory ran out
pub told_why : {E : Type 0} (answer : Result (List ℕ) Refusal) (why : Refusal) (result : Result Answer E) (faults : Printed) → IsUnanswered answer why →
    IfOk result (λ given. printed_by given ≡ unanswered why faults) → (why ≡ AnswerMemory → IsErr result) →
    IfOk result (λ given. printed_by given ≡ answer_or_why answer faults)
told_why answer why result faults (inl is) told short = rw is told
told_why answer why (Ok given) faults (inr m) told short = absurd (false_is_true (short m.0))
told_why answer why (Err e) faults (inr m) told short = tt

-- the first of two questions isn't answered
pub told_first : {E : Type 0} (first second : Result (List ℕ) Refusal) (why : Refusal) (result : Result Answer E) (faults : Printed) → IsUnanswered first why →
    IfOk result (λ given. printed_by given ≡ unanswered why faults) → (why ≡ AnswerMemory → IsErr result) →
    IfOk result (λ given. printed_by given ≡ answer_or_why (both_answers first second) faults)
told_first first second why result faults (inl is) told short = rw is told
told_first first second why (Ok given) faults (inr m) told short = absurd (false_is_true (short m.0))
told_first first second why (Err e) faults (inr m) told short = tt

-- the second of two questions isn't answered
pub told_second : {E : Type 0} (first second : Result (List ℕ) Refusal) (P : List ℕ → Type 0) (why : Refusal) (result : Result Answer E) (faults : Printed) →
    IsOkAnd first P → IsUnanswered second why → IfOk result (λ given. printed_by given ≡ unanswered why faults) → (why ≡ AnswerMemory → IsErr result) →
    IfOk result (λ given. printed_by given ≡ answer_or_why (both_answers first second) faults)
told_second (Ok registers) second P why result faults ok (inl is) told short = rw is told
told_second (Ok registers) second P why (Ok given) faults ok (inr m) told short = absurd (false_is_true (short m.0))
told_second (Ok registers) second P why (Err e) faults ok (inr m) told short = tt
told_second (Err e) second P why result faults ok is told short = absurd ok
