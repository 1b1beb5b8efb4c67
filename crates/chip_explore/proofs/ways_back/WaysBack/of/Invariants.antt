use Rattle.std.proofs.Common.{◌≡◌}
use Rattle.chip_explore.proofs.ways_back.WaysBack.of.Given as goal

abbrev pub invariant-loop-place : goal.invariant-loop-place
invariant-loop-place l = l.search.members ≡ l.fn.search.members
