use Rattle.chip_explore.specs.inner.Told.{Tells}
use Rattle.chip_explore.proofs.question.search.Given as goal

abbrev pub invariant-loop-attempt : goal.invariant-loop-attempt
invariant-loop-attempt g l = Tells l.setting l.bounds l.start l.last.explored
