-- The value of a sum with one term.
use Rattle.std.proofs.Common.{◌≡◌, ◌+◌, ◌*◌, List, [], ◌∷◌, ap, arith, sum_by}
use Rattle.chip_explore.specs.Property.{sum_in, value_in}
use Rattle.chip_explore.specs.declared.property.Sum.{Sum}
use Rattle.chip_explore.specs.declared.property.Term.{Term}
use Rattle.chip_machine.specs.State.{State}

pub sum_of_one : (s : State) (sum : Sum) (term : Term) → sum.terms.items ≡ term ∷ [] → sum.constant + term.factor * value_in s term.item ≡ sum_in s sum
sum_of_one s sum term one =
    let is : sum_in s sum ≡ sum.constant + sum_by (λ (t : Term). t.factor * value_in s t.item) (term ∷ []) =
    ap (λ (terms : List Term). sum.constant + sum_by (λ (t : Term). t.factor * value_in s t.item) terms) one in
    omega (arith, is)
