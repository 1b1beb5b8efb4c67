-- The output of a command on a source, depending on whether the source opens.
use Rattle.std.proofs.Common.{◌≡◌, inl, inr, ℕ, Bool, false, true, List, Option, None, Some, Result, Ok, Err, IfErr, IfOk, refl, subst}
use Rattle.std.specs.Prelude.{IsErr}
use Rattle.chip_asm.specs.Lines.{lines_of, open_fault}
use Rattle.chip_asm.specs.declared.refusal.OpenError.{OpenError}
use Rattle.chip_asm.specs.declared.refusal.OpenError.TheVariants as unopened
use Rattle.std.specs.Borrow.{Bor}
use Rattle.chip_session.specs.Tally.{Tally}
use Rattle.chip_host.specs.Reading.{FromSource, GivesSource}
use Rattle.chip_host.specs.Endings.{Outcome}
use Rattle.chip_host.specs.Printing.{IfOpens, Printed, Prints, PrintsSuch, Refuses, printed, unopened_text, IsUnopened, printed_by}
use Rattle.chip_host.specs.declared.printing.Answer.{Answer}
use Rattle.chip_host.specs.declared.ending.Ending.TheVariants.{Faulty}
use Rattle.chip_host.specs.declared.ending.Failure.TheVariants as failure

module _ {W : Type 0} (contents : W → Option (List ℕ)) (old new : Tally W) where
  -- the reason why a source doesn't open is printed
  pub refused : (e : OpenError) (ended : Outcome) → Refuses contents old new e ended → Prints contents old new (printed (unopened_text e) Faulty) ended
  refused (unopened.LineTooLong n) ended r = r
  refused unopened.TooManyLines ended r = r
  refused unopened.OutOfMemory ended r = rw r.0 r.1

  -- an answer that passes a test is printed, unless memory ran out for the answer
  pub delivers_such : {E : Type 0} (answer : Result Answer E) (Such : Printed → Type 0) (ended : Outcome) → IfOk answer (λ given. Such (printed_by given)) →
      ((wanted : Printed) → IfOk answer (λ given. printed_by given ≡ wanted) → Prints contents old new wanted ended) →
      IfErr answer (λ e. (ended ≡ Err failure.OutOfMemory) × (new ≡ old)) → PrintsSuch contents old new Such ended
  delivers_such (Ok given) Such ended such prints short = inl (printed_by given, such, prints (printed_by given) refl)
  delivers_such (Err e) Such ended such prints short = inr short

module _ {W : Type 0} (contents : W → Option (List ℕ)) (old new : Tally W) (source : List ℕ) (ended : Outcome)
    (Did : List (List ℕ) → Outcome → Type 0) where
  -- the effects on the lines of a source that opens
  pub opened_lines : (lines : List (List ℕ)) → open_fault source ≡ None → lines ≡ lines_of source → Did lines ended →
      IfOpens contents old new (open_fault source) (Did (lines_of source)) ended
  opened_lines lines opens same did = rw opens (subst (λ (l : List (List ℕ)). Did l ended) same did)

  -- the source doesn't open, or memory ran out
  pub unopened_lines : (e : OpenError) → IsUnopened source e → Refuses contents old new e ended →
      (ended ≡ Err failure.OutOfMemory → new ≡ old → Did (lines_of source) ended) →
      IfOpens contents old new (open_fault source) (Did (lines_of source)) ended
  unopened_lines e (inl memory) r short =
      let r' : Refuses contents old new unopened.OutOfMemory ended = subst (λ (o : OpenError). Refuses contents old new o ended) memory r in
      by_fault (open_fault source) r'.0 r'.1
    where
      by_fault : (fault : Option OpenError) → ended ≡ Err failure.OutOfMemory → new ≡ old → IfOpens contents old new fault (Did (lines_of source)) ended
      by_fault None e same = short e same
      by_fault (Some f) e same = rw e same
  unopened_lines e (inr found) r short = rw found (refused contents old new e ended r)

-- the effects on a source that was read
module _ {R W : Type 0} (remaining : R → Option (List ℕ)) (contents : W → Option (List ℕ)) (in_old in_new : Tally R) (old new : Tally W)
    (name : Bor (List ℕ)) (bytes : List ℕ) (ended : Outcome) (Did : List (List ℕ) → Outcome → Type 0) where
  abbrev OfLines : Type 0
  OfLines = FromSource remaining in_old in_new (new ≡ old) name (λ bytes. IfOpens contents old new (open_fault bytes) (Did (lines_of bytes))) ended

  pub of_opened : (lines : List (List ℕ)) → GivesSource remaining in_old in_new name.now bytes → open_fault bytes ≡ None → lines ≡ lines_of bytes →
      Did lines ended → OfLines
  of_opened lines gives opens same did = inl (bytes, gives, opened_lines contents old new bytes ended Did lines opens same did)

  pub of_unopened : (e : OpenError) → GivesSource remaining in_old in_new name.now bytes → IsUnopened bytes e → Refuses contents old new e ended →
      (ended ≡ Err failure.OutOfMemory → new ≡ old → Did (lines_of bytes) ended) → OfLines
  of_unopened e gives is r short = inl (bytes, gives, unopened_lines contents old new bytes ended Did e is r short)

pub false_is_true : ◌≡◌ {A = Bool} false true → ⊥
false_is_true h = cc

-- memory ran out for an answer
pub short_of : {T E : Type 0} {P : Type 0} (answer : Result T E) → IsErr answer → IfErr answer (λ e. P) → P
short_of (Ok given) is short = absurd (false_is_true is)
short_of (Err e) is short = short
