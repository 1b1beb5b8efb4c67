use Rattle.std.proofs.Common.{subst, sym}
use Rattle.chip_bench.proofs.TestLemmas.{PassesSoFar, passes_all, passes_more, passes_none}
use Rattle.chip_bench.proofs.case_run.other_answers.Goals as goal

pub loop-step-init : goal.loop-step-init
loop-step-init c =
    let start = c.args.bench.now.session in
    subst (PassesSoFar start c.args.steps.now start 0) (sym c.new-others.ensures.items) (passes_none start c.args.steps.now)

pub loop-step-preserved : goal.loop-step-preserved
loop-step-preserved c =
    let answered = rw (c.deref.ensures.value, c.deref-in-loop-step.ensures.value, c.in_ok-respond.ensures.answer) at c.in_ok-is_expected.ensures in
    passes_more c.args.bench.now.session c.args.steps.now c.loop-step.bench.session _ c.loop-step.step-index c.step-item.result c.step-item.result
    c.loop-step.others.items _ c.in_ok-is_expected.is_expected c.loop-step-test.true c.step-item.is c.loop-step.invariant answered
    c.in_ok-respond.ensures.bench c.in_ok-keep_other.ensures

pub returns : goal.returns
returns c =
    passes_all c.args.bench.now.session c.args.steps.now c.loop-step.bench.session c.loop-step.step-index c.loop-step.others.items c.loop-step-test.false c.loop-step.invariant
