use Rattle.std.proofs.Common.{◌≡◌, Bool, Contains, List, subst, sym, true, ◌∙◌}
use Rattle.std.proofs.lemmas.Bool.{false≢true, not-true}
use Rattle.chip_facts.specs.Facts.{is_among}
use Rattle.chip_facts.specs.declared.table.Left.{Left}
use Rattle.chip_verdicts.proofs.Excluding.{never_met}
use Rattle.chip_verdicts.proofs.verdict.excludes.Goals as goal
use Rattle.chip_verdicts.proofs.verdict.excludes.Goals.{then-are_unmet, else-are_unmet}

pub returns-then-is_never_at : goal.returns-then-is_never_at
returns-then-is_never_at c = λ unwanted image quirks holds s reached.
    elim c.if-are_unmet.branch [
      | then-are_unmet w ↦
          never_met image quirks c.args.facts.now c.args.target.now
          (λ pc among. w.is_never_at.ensures (sym w.value-is ∙ c.if-is_never_at.true) pc
          (subst (λ (executed : List Bool). is_among executed pc ≡ true) (sym w.deref.ensures.value) among))
          (λ pc why there. c.has_wanted.ensures (not-true c.has_wanted.result unwanted) pc why
          (subst (λ (left : List Left). Contains left (record { pc = pc; stop = why })) (sym c.deref-then-is_never_at.ensures.value) there))
          (c.are_unmet.ensures w.if-are_unmet.true)
          holds s reached
      | else-are_unmet w ↦ absurd (false≢true (sym w.if-are_unmet.false ∙ sym w.value-is ∙ c.if-is_never_at.true))
    ]
