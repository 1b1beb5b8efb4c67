use Rattle.std.proofs.Common.{◌≡◌}
use Rattle.chip_explore.proofs.ways_back.WaysBack.lost_from.Given as goal

abbrev pub invariant-loop-goal : goal.invariant-loop-goal
invariant-loop-goal l = l.search.members ≡ l.fn.search.members
