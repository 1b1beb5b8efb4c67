use Rattle.std.proofs.Common.{◌+◌, ◌++◌, List, ℕ, drop}
use Rattle.chip_check.specs.Check.{AreReports}
use Rattle.chip_check.specs.inner.Printing.{print_in}
use Rattle.chip_check.proofs.check.reports.Given as goal

abbrev pub invariant-loop-place : goal.invariant-loop-place
invariant-loop-place l =
    (others : List ℕ) → AreReports (print_in l.style.form l.style.name.now) l.source.lines (l.place + 1) (drop l.place l.source.lines) others
    → AreReports (print_in l.style.form l.style.name.now) l.source.lines 1 l.source.lines (l.text.items ++ others)
