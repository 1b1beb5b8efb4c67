use Rattle.std.proofs.Common.{ℕ, ◌<◌, ◌+◌, ◌*◌}
use Rattle.chip_explore.specs.Property.{is_related, value_in}
use Rattle.chip_machine.specs.State.{State}
use Rattle.chip_verdicts.specs.inner.Possible.{IsPossible, IsSeen, IsWithin}
use Rattle.chip_verdicts.proofs.view.View.term_related.Given as goal

abbrev pub invariant-loop-value : goal.invariant-loop-value
invariant-loop-value l = (s : State) → IsSeen l.self s → value_in s l.term.item < l.value → (b : ℕ) → IsWithin l.other b
    → IsPossible l.possible (is_related l.relation (l.constant + l.term.factor * value_in s l.term.item) b)
