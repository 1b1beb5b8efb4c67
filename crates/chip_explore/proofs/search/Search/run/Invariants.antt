use Rattle.std.proofs.Common.{◌+◌}
use Rattle.chip_explore.specs.Answers.{most_ways}
use Rattle.chip_explore.specs.inner.Cover.{GoesUpTo}
use Rattle.chip_explore.proofs.search.Search.run.Given as goal

abbrev pub invariant-loop-turns : goal.invariant-loop-turns
invariant-loop-turns g l = GoesUpTo l.setting l.fn.self.members l.self.members (l.most_states + most_ways)
