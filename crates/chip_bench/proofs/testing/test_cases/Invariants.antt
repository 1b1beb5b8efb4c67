use Rattle.chip_bench.specs.Testing.{JudgesCase}
use Rattle.chip_bench.proofs.TestLemmas.{JudgesSoFar}
use Rattle.chip_bench.proofs.testing.test_cases.Given as goal

abbrev pub invariant-loop-case : goal.invariant-loop-case
invariant-loop-case g l = JudgesSoFar JudgesCase l.cases l.case-index l.has_passed
