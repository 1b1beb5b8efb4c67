use Rattle.chip_bench.specs.Testing.{JudgesFile}
use Rattle.chip_bench.proofs.TestLemmas.{JudgesSoFar}
use Rattle.chip_bench.proofs.testing.test_files.Given as goal

abbrev pub invariant-loop-name : goal.invariant-loop-name
invariant-loop-name g l = JudgesSoFar JudgesFile l.names l.name-index l.has_passed
