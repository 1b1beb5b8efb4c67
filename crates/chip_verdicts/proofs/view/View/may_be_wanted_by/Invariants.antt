use Rattle.std.proofs.Common.{◌≡◌, ◌<◌, true}
use Rattle.chip_explore.specs.Property.{value_in}
use Rattle.chip_machine.specs.State.{State}
use Rattle.chip_verdicts.specs.inner.Possible.{IsSeen, is_as_wanted}
use Rattle.chip_verdicts.proofs.view.View.may_be_wanted_by.Given as goal

abbrev pub invariant-loop-value : goal.invariant-loop-value
invariant-loop-value l = (s : State) → IsSeen l.self s → value_in s l.item < l.value → is_as_wanted s l.property ≡ true → ⊥
