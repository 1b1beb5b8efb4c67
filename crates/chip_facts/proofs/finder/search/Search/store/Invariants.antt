use Rattle.std.proofs.Common.{◌-◌}
use Rattle.chip_facts.proofs.finder.search.Search.store.Given as goal

abbrev pub decreases-loop-from : goal.decreases-loop-from
decreases-loop-from l = 4097 - l.from
