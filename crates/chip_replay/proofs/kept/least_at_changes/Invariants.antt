use Rattle.std.proofs.Common.{length, slice_index}
use Rattle.chip_replay.proofs.Places.{IsLeast}
use Rattle.chip_replay.proofs.kept.least_at_changes.Given as goal

abbrev pub invariant-loop-i : goal.invariant-loop-i
invariant-loop-i l = IsLeast (slice_index l.steps) l.fn.old l.fn.new l.i (length l.steps) l.most l.least
