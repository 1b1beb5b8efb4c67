use Rattle.std.proofs.Common.{◌≡◌, ◌+◌, ◌*◌, ◌^◌, ◌≤◌, take, sum_by}
use Rattle.chip_explore.specs.Property.{value_in}
use Rattle.chip_explore.specs.declared.property.Term.{Term}
use Rattle.chip_explore.proofs.property.Sum.value.Given as goal

abbrev pub invariant-loop-term : goal.invariant-loop-term
invariant-loop-term l =
    record {
      total : l.sum ≡ l.self.constant + sum_by (λ (term : Term). term.factor * value_in l.machine term.item) (take l.term-index l.self.terms.items);
      small : l.sum ≤ 2 ^ 32 + l.term-index * 2 ^ 48;
    }
