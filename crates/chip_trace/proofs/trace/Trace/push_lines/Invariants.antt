use Rattle.std.proofs.Common.{◌≡◌, ◌≤◌, ◌++◌, take, drop, max}
use Rattle.chip_trace.specs.Lines.{remaining, newline_ended, states_of, SameRun}
use Rattle.chip_trace.proofs.trace.Trace.push_lines.Given as goal

abbrev pub invariant-loop-made : goal.invariant-loop-made
invariant-loop-made l = record {
  added : l.text.items ≡ l.initial.text.items ++ newline_ended (take l._made (remaining (states_of l.fn.replay) l.fn.self));
  left : remaining (states_of l.fn.replay) l.self ≡ drop l._made (remaining (states_of l.fn.replay) l.fn.self);
  run : SameRun l.fn.replay l.replay;
  to : l.self.to ≡ l.fn.self.to;
  next : l.self.next ≤ max l.fn.self.next l.fn.self.to;
}
