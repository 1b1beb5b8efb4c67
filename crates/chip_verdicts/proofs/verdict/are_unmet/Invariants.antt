use Rattle.std.proofs.Common.{◌≡◌, ℕ, ◌<◌, Any, false, get_or}
use Rattle.chip_explore.specs.Property.{is_met}
use Rattle.chip_explore.specs.declared.property.Property.{Property}
use Rattle.chip_facts.specs.Rows.{IsInRow}
use Rattle.chip_machine.specs.State.{State}
use Rattle.chip_verdicts.proofs.verdict.are_unmet.Given as goal

abbrev pub invariant-loop-property : goal.invariant-loop-property
invariant-loop-property l = (k : ℕ) (d : Property) (s : State) → k < l.property-index → Any (λ row. IsInRow l.facts row s) l.facts.rows.items
    → is_met s (get_or l.properties k d) ≡ false
