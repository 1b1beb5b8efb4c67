use Rattle.std.proofs.Common.{◌≡◌}
use Rattle.chip_explore.proofs.search.Search.refute_next.Given as goal

abbrev pub invariant-loop-part : goal.invariant-loop-part
invariant-loop-part l = l.self.members ≡ l.fn.self.members
