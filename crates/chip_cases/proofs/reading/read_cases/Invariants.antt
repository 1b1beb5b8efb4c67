use Rattle.std.proofs.Common.{List, ◌++◌, false, length}
use Rattle.std.specs.Str.Lines.{lines}
use Rattle.chip_cases.specs.Cases.{AreCasesOf, behind_setup, behind_steps}
use Rattle.chip_cases.specs.declared.case.Case.{Case}
use Rattle.chip_cases.proofs.reading.read_cases.Given as goal

abbrev pub invariant-loop-common : goal.invariant-loop-common
invariant-loop-common l =
    (others : List Case) → AreCasesOf (lines l.place.rest.now) others
    → AreCasesOf (behind_steps (behind_setup false (lines l.fn.text))) (l.cases.items ++ others)

abbrev pub decreases-loop-common : goal.decreases-loop-common
decreases-loop-common l = length l.place.rest.now
