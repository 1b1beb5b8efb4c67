use Rattle.chip_bench.proofs.TestLemmas.{PassesSoFar}
use Rattle.chip_bench.proofs.case_run.other_answers.Given as goal

abbrev pub invariant-loop-step : goal.invariant-loop-step
invariant-loop-step l = PassesSoFar l.fn.bench.session l.steps l.bench.session l.step-index l.others.items
