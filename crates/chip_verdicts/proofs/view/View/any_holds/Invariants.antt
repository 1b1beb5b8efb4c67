use Rattle.std.proofs.Common.{take}
use Rattle.std.specs.List.{list_any}
use Rattle.chip_explore.specs.Property.{compares}
use Rattle.chip_machine.specs.State.{State}
use Rattle.chip_verdicts.specs.inner.Possible.{IsPossible, IsSeen}
use Rattle.chip_verdicts.proofs.view.View.any_holds.Given as goal

abbrev pub invariant-loop-comparison : goal.invariant-loop-comparison
invariant-loop-comparison l = (s : State) → IsSeen l.self s → IsPossible l.possible (list_any (compares s) (take l.comparison-index l.comparisons))
