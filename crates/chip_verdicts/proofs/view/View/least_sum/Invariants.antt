use Rattle.std.proofs.Common.{◌+◌, ◌*◌, ◌^◌, ◌≤◌, take, sum_by}
use Rattle.chip_explore.specs.Property.{value_in}
use Rattle.chip_explore.specs.declared.property.Term.{Term}
use Rattle.chip_machine.specs.State.{State}
use Rattle.chip_verdicts.specs.inner.Possible.{IsSeen}
use Rattle.chip_verdicts.proofs.view.View.least_sum.Given as goal

abbrev pub invariant-loop-term : goal.invariant-loop-term
invariant-loop-term l =
    record {
      bound : (s : State) → IsSeen l.self s
          → l.total ≤ l.sum.constant + sum_by (λ (term : Term). term.factor * value_in s term.item) (take l.term-index l.sum.terms.items);
      small : l.total ≤ 2 ^ 32 + l.term-index * 2 ^ 48;
    }
