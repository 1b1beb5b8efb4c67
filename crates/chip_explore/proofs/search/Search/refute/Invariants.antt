use Rattle.std.proofs.Common.{◌≡◌}
use Rattle.chip_explore.proofs.search.Search.refute.Given as goal

abbrev pub invariant-loop-state : goal.invariant-loop-state
invariant-loop-state l = l.self.members ≡ l.fn.self.members
