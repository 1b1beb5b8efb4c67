use Rattle.std.proofs.Common.{◌≡◌, ◌≤◌, ◌+◌, length, map, max}
use Rattle.std.specs.Str.Lines.{lines}
use Rattle.chip_trace.specs.Difference.{bytes_of}
use Rattle.chip_trace.specs.Lines.{remaining, states_of, SameRun}
use Rattle.chip_trace.specs.inner.Comparing.{AlikeSoFar}
use Rattle.chip_trace.proofs.difference.first_difference.Given as goal

abbrev pub invariant-loop-left : goal.invariant-loop-left
invariant-loop-left l = record {
  so_far : AlikeSoFar (remaining (states_of l.fn.replay) l.fn.trace) (lines l.fn.theirs) (remaining (states_of l.fn.replay) l.trace) (lines l.left) (map bytes_of l.before.items) l.index;
  run : SameRun l.fn.replay l.replay;
  to : l.trace.to ≡ l.fn.trace.to;
  next : l.trace.next ≤ max l.fn.trace.next l.fn.trace.to;
  room : l.index + length l.left ≤ length l.fn.theirs;
}

abbrev pub decreases-loop-left : goal.decreases-loop-left
decreases-loop-left l = length l.left
