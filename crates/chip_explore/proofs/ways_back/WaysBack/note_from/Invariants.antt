use Rattle.std.proofs.Common.{◌≡◌}
use Rattle.chip_explore.proofs.ways_back.WaysBack.note_from.Given as goal

abbrev pub invariant-loop-key : goal.invariant-loop-key
invariant-loop-key l = l.search.members ≡ l.fn.search.members
