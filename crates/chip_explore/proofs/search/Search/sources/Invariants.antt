use Rattle.std.proofs.Common.{◌≡◌}
use Rattle.chip_explore.proofs.search.Search.sources.Given as goal

abbrev pub invariant-loop-number : goal.invariant-loop-number
invariant-loop-number l = l.self.members ≡ l.fn.self.members
