use Rattle.std.proofs.Common.{◌≡◌, ◌∙◌, ℕ, List, [], refl, None, Some, sym, ap, subst}
use Rattle.std.proofs.lemmas.List.{append-nil}
use Rattle.chip_asm.specs.LineViews.{line_at}
use Rattle.chip_check.specs.Check.{Print, IsWarningText, warning_text}
use Rattle.chip_check.specs.inner.Printing.{print_in}
use Rattle.chip_warnings.specs.declared.warning.Warning.{Warning}
use Rattle.chip_check.proofs.TextsInOrder.{no_part_left, no_part_yet, one_part_more}
use Rattle.chip_check.proofs.check.push_warnings.Goals as goal
use Rattle.chip_check.proofs.check.push_warnings.Goals.{in-Some+in_ok-push_warning, in_default}

abbrev told_in : Print → (lines : List (List ℕ)) → Warning → List ℕ → Type 0
told_in print lines w = IsWarningText print (line_at lines w.line) w

pub loop-warning-init : goal.loop-warning-init
loop-warning-init c =
    no_part_yet (told_in (print_in c.args.style.form c.args.style.name.now) c.args.source.now.lines) c.args.warnings.now c.args.text.now.items

pub loop-warning-preserved : goal.loop-warning-preserved
loop-warning-preserved c =
    let lines : List (List ℕ) = c.args.source.now.lines in
    let print : Print = print_in c.args.style.form c.args.style.name.now in
    let before : List ℕ = c.loop-warning.text.items in
    let one = one_part_more (told_in print lines) c.args.warnings.now c.args.text.now.items c.loop-warning.warning-index in
    elim c.match-line.branch [
      | in-Some+in_ok-push_warning w ↦
          let line = w.in-Some.line in
          let hints = w.in_ok-push_warning.ensures.0 in
          let found : Some line ≡ line_at lines c.warning-item.result.line = sym w.in-Some.is ∙ c.line.ensures.value in
          one _ _ before _ _ c.loop-warning-test.true c.warning-item.is (ap (λ v. v.items) w.text-is ∙ w.in_ok-push_warning.ensures.1)
          (subst (λ o. IsWarningText print o c.warning-item.result (warning_text print w.text.result.now c.warning-item.result hints)) found
          (hints, ap (λ text. warning_text print text c.warning-item.result hints) w.text.ensures)) c.loop-warning.invariant
      | in_default w ↦
          let nothing : None ≡ line_at lines c.warning-item.result.line = sym w.in_default.is ∙ c.line.ensures.value in
          one _ _ before _ [] c.loop-warning-test.true c.warning-item.is (ap (λ v. v.items) w.text-is ∙ sym (append-nil before))
          (subst (λ o. IsWarningText print o c.warning-item.result []) nothing refl) c.loop-warning.invariant
    ]

pub returns : goal.returns
returns c =
    no_part_left (told_in (print_in c.args.style.form c.args.style.name.now) c.args.source.now.lines) c.args.warnings.now c.args.text.now.items
    c.loop-warning.warning-index c.loop-warning.text.items c.loop-warning-test.false c.loop-warning.invariant
