use Rattle.std.proofs.Common.{◌≤◌, ◌+◌}
use Rattle.chip_explore.specs.Property.{value_in}
use Rattle.chip_machine.specs.State.{State}
use Rattle.chip_verdicts.specs.inner.Possible.{IsSeen}
use Rattle.chip_verdicts.proofs.view.View.most_tried.Given as goal

abbrev pub invariant-loop-below : goal.invariant-loop-below
invariant-loop-below l = (s : State) → IsSeen l.self s → value_in s l.item + l.below ≤ l.limit
