use Rattle.std.proofs.Common.{length}
use Rattle.chip_analysis.specs.inner.Sets.{number_by}
use Rattle.chip_analysis.proofs.SetLemmas.{Completes}
use Rattle.chip_analysis.proofs.sets.set_of.Given as goal

abbrev pub invariant-loop-next : goal.invariant-loop-next
invariant-loop-next l = Completes (number_by l.fn.item) l.fn.text l.rest l.set

abbrev pub decreases-loop-next : goal.decreases-loop-next
decreases-loop-next l = length l.rest
