use Rattle.chip_explore.specs.inner.Cover.{IsSearchedAs}
use Rattle.chip_explore.proofs.searching.search_anew.Given as goal

abbrev pub invariant-loop-attempt : goal.invariant-loop-attempt
invariant-loop-attempt g l = IsSearchedAs l.setting l.last.setting l.last.search.members l.beginning.machine.now l.beginning.step
