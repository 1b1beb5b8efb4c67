use Rattle.std.proofs.Common.{◌≡◌, ◌+◌, ◌-◌, ◌≤◌, length, take, Ok}
use Rattle.chip_session.specs.inner.Progress.{Carries}
use Rattle.chip_session.proofs.server.Conversation.take_lines.Given as goal

-- the first bytes of the piece have been carried out
abbrev pub invariant-loop-taken : goal.invariant-loop-taken
invariant-loop-taken g l = record {
  carries : Carries l.fn.self (g.W.Write.contents l.fn.writer.inner) (take l.taken l.piece) (Ok tt) l.self (g.W.Write.contents l.writer.inner);
  within : l.taken ≤ length l.piece;
  counted : l.self.taken ≡ l.fn.self.taken + l.taken;
  failures : l.writer.failures ≡ l.fn.writer.failures;
}

abbrev pub decreases-loop-taken : goal.decreases-loop-taken
decreases-loop-taken g l = length l.piece - l.taken
