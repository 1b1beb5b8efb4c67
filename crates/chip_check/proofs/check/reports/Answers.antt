use Rattle.std.proofs.Common.{◌≡◌, ◌+◌, ◌-◌, ◌++◌, ◌∙◌, ◌≤◌, ℕ, List, [], ◌∷◌, Some, drop, IfSome, length, refl, ap, sym, subst, append_assoc, arith, slice_get}
use Rattle.std.proofs.lemmas.List.{append-nil, drop_all}
use Rattle.chip_asm.specs.LineViews.{LineFacts}
use Rattle.chip_asm.specs.Program.{fault_at}
use Rattle.chip_check.specs.Check.{Print, AreReports, report_of}
use Rattle.chip_check.specs.declared.hint.Hint.{Hint}
use Rattle.chip_check.specs.inner.Printing.{print_in}
use Rattle.chip_check.proofs.LinesLeft.{first-left, none-left}
use Rattle.chip_check.proofs.check.reports.Goals as goal
use Rattle.chip_check.proofs.check.reports.Goals.{in-Some+in_ok-push_fault, in_default}

-- the report of one line more
next-report : (print : Print) (all : List (List ℕ)) (number : ℕ) (rest : List (List ℕ)) (line : List ℕ) (more : List (List ℕ)) (before after : List ℕ) (hints : List Hint)
    → after ≡ before ++ report_of print all number line (fault_at all number) hints → rest ≡ line ∷ more
    → ((others : List ℕ) → AreReports print all number rest others → AreReports print all 1 all (before ++ others))
    → (others : List ℕ) → AreReports print all (number + 1) more others → AreReports print all 1 all (after ++ others)
next-report print all number rest line more before after hints added lines so-far others reports =
    let report : List ℕ = report_of print all number line (fault_at all number) hints in
    let whole : AreReports print all number (line ∷ more) (report ++ others) = (hints, others, refl, reports) in
    let these : AreReports print all number rest (report ++ others) = subst (λ ls. AreReports print all number ls (report ++ others)) (sym lines) whole in
    let same : before ++ (report ++ others) ≡ after ++ others = rw added (sym (append_assoc before report others)) in
    subst (λ text. AreReports print all 1 all text) same (so-far (report ++ others) these)

pub loop-place-preserved : goal.loop-place-preserved
loop-place-preserved c =
    let lines : List (List ℕ) = c.args.source.now.lines in
    let place : ℕ = c.loop-place.place in
    let print : Print = print_in c.args.style.form c.args.style.name.now in
    elim c.match-line.branch [
      | in-Some+in_ok-push_fault w ↦
          let line : LineFacts = w.in-Some.line in
          let hints = w.in_ok-push_fault.ensures.0 in
          let number : line.number ≡ place + 1 = subst (λ o. IfSome o (λ (f : LineFacts). f.number ≡ place + 1)) w.in-Some.is c.line.ensures.number in
          let text : slice_get lines (place + 1 - 1) ≡ Some line.text = subst (λ o. IfSome o (λ (f : LineFacts). slice_get lines (place + 1 - 1) ≡ Some f.text)) w.in-Some.is c.line.ensures.text in
          let same : place + 1 - 1 ≡ place = omega arith in
          next-report print lines (place + 1) (drop place lines) line.text (drop (place + 1) lines) c.loop-place.text.items _ hints
          (ap (λ v. v.items) w.text-is ∙ w.in_ok-push_fault.ensures.1 ∙ ap (λ n. c.loop-place.text.items ++ report_of print lines n line.text (fault_at lines n) hints) number)
          (first-left lines place line.text (ap (slice_get lines) (sym same) ∙ text)) c.loop-place.invariant
      | in_default w ↦ absurd (omega (arith, c.loop-place-test.true, c.lines-place-end.ensures.told, none-left lines place (sym c.line.ensures.value ∙ w.in_default.is)))
    ]

pub returns : goal.returns
returns c =
    let lines : List (List ℕ) = c.args.source.now.lines in
    let place : ℕ = c.loop-place.place in
    let print : Print = print_in c.args.style.form c.args.style.name.now in
    let past : length lines ≤ place = omega (arith, c.loop-place-test.false, c.lines-place-end.ensures.value) in
    let none : AreReports print lines (place + 1) (drop place lines) [] = subst (λ ls. AreReports print lines (place + 1) ls []) (sym (drop_all place lines past)) refl in
    subst (λ text. AreReports print lines 1 lines text) (append-nil c.loop-place.text.items) (c.loop-place.invariant [] none)
