use Rattle.std.proofs.Common.{◌∙◌, Any, List, sym, subst}
use Rattle.std.proofs.lemmas.Bool.{false≢true}
use Rattle.chip_facts.specs.inner.Steps.{IsNext}
use Rattle.chip_facts.specs.declared.outcome.Successor.{Successor}
use Rattle.chip_facts.proofs.Closed.{outcome_allowed}
use Rattle.chip_facts.proofs.table.Table.has_outcome.Goals as goal
use Rattle.chip_facts.proofs.table.Table.has_outcome.Goals.{then-has_stop, else-has_stop}

pub returns-then-has_changes : goal.returns-then-has_changes
returns-then-has_changes c = λ h same s at ended meets.
    elim c.if-has_stop.branch [
      | then-has_stop w ↦
          outcome_allowed c.args.self.now c.args.before.now c.args.out.now (c.has_stop.ensures w.if-has_stop.true)
          (w.has_changes.ensures (sym w.value-is ∙ c.if-has_changes.true))
          (λ core any. c.has_next.ensures h core (subst (λ (next : List Successor). Any (IsNext c.args.before.now.frames.now core) next) (sym c.deref.ensures.value) any))
          same s at ended meets
      | else-has_stop w ↦ absurd (false≢true (sym w.if-has_stop.false ∙ sym w.value-is ∙ c.if-has_changes.true))
    ]
