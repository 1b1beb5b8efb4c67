use Rattle.std.proofs.Common.{◌≡◌, ◌∙◌, ◌+◌, ◌&&◌, ap, subst, sym}
use Rattle.chip_bench.specs.Testing.{JudgesCase, has_passed}
use Rattle.chip_bench.proofs.TestLemmas.{JudgesSoFar, judges_all, judges_more}
use Rattle.chip_bench.proofs.testing.test_cases.Goals as goal
use Rattle.chip_bench.proofs.testing.test_cases.Goals.{then-has_passed, else-has_passed}

pub loop-case-preserved : goal.loop-case-preserved
loop-case-preserved g c =
    let one = has_passed c.in_ok-verdict.verdict in
    let value : c.if-has_passed.has_passed ≡ (c.loop-case.has_passed && one) = elim c.if-has_passed.branch [
      | then-has_passed w ↦ w.has_passed-is ∙ w.has_passed-has_passed.ensures ∙ sym (ap (λ b. b && one) w.if-has_passed.true)
      | else-has_passed w ↦ w.has_passed-is ∙ w.if-has_passed.false ∙ sym (ap (λ b. b && one) w.if-has_passed.false)
    ] in
    subst (JudgesSoFar JudgesCase c.args.cases.now (c.loop-case.case-index + 1)) (sym value)
    (judges_more JudgesCase c.args.cases.now c.loop-case.case-index c.case-item.result c.case-item.result c.loop-case.has_passed one c.loop-case-test.true
    c.case-item.is c.in_ok-verdict.ensures.ok c.loop-case.invariant)

pub returns-clause-ok : goal.returns-clause-ok
returns-clause-ok g c =
    judges_all JudgesCase c.args.cases.now c.loop-case.case-index c.loop-case.has_passed c.loop-case-test.false c.loop-case.invariant
