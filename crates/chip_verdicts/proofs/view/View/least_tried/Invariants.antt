use Rattle.std.proofs.Common.{◌≤◌}
use Rattle.chip_explore.specs.Property.{value_in}
use Rattle.chip_machine.specs.State.{State}
use Rattle.chip_verdicts.specs.inner.Possible.{IsSeen}
use Rattle.chip_verdicts.proofs.view.View.least_tried.Given as goal

abbrev pub invariant-loop-value : goal.invariant-loop-value
invariant-loop-value l = (s : State) → IsSeen l.self s → l.value ≤ value_in s l.item
