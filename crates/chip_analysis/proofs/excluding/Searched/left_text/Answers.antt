use Rattle.std.proofs.Common.{◌∙◌, ap, sym}
use Rattle.chip_analysis.proofs.ExcludingLemmas.{with_line, without_line}
use Rattle.chip_analysis.proofs.excluding.Searched.left_text.Goals as goal
use Rattle.chip_analysis.proofs.excluding.Searched.left_text.Goals.{then-contains+in_ok-place+in_ok-push_left, else-contains}

pub loop-one-preserved : goal.loop-one-preserved
loop-one-preserved c = elim c.if-contains.branch [
  | then-contains+in_ok-place+in_ok-push_left w ↦
      with_line c.args.causes c.args.left.now c.loop-one.one-index _ c.loop-one.text.items c.if-contains.text.items c.loop-one-test.true c.loop-one.invariant
      w.deref.result.now (sym c.contains.ensures ∙ w.if-contains.true) (ap (λ t. t.items) w.text-is ∙ w.in_ok-push_left.ensures)
  | else-contains w ↦
      without_line c.args.causes c.args.left.now c.loop-one.one-index _ c.loop-one.text.items c.if-contains.text.items c.loop-one-test.true c.loop-one.invariant
      (sym c.contains.ensures ∙ w.if-contains.false) (ap (λ t. t.items) w.text-is)
]
