use Rattle.std.proofs.Common.{◌≡◌}
use Rattle.chip_explore.proofs.ways_back.WaysBack.first_loss.Given as goal

abbrev pub invariant-loop-place : goal.invariant-loop-place
invariant-loop-place l = l.search.members ≡ l.fn.search.members
