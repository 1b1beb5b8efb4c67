use Rattle.chip_asm.specs.LineViews.{line_at}
use Rattle.chip_check.specs.Check.{IsWarningText}
use Rattle.chip_check.specs.inner.Printing.{print_in}
use Rattle.chip_warnings.specs.declared.warning.Warning.{Warning}
use Rattle.chip_check.proofs.TextsInOrder.{PartsSoFar}
use Rattle.chip_check.proofs.check.push_warnings.Given as goal

abbrev pub invariant-loop-warning : goal.invariant-loop-warning
invariant-loop-warning l =
    PartsSoFar (λ (w : Warning). IsWarningText (print_in l.style.form l.style.name.now) (line_at l.source.lines w.line) w) l.warnings
    l.initial.text.items l.warning-index l.text.items
