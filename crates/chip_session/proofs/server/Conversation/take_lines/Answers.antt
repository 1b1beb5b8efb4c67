use Rattle.std.proofs.Common.{◌∙◌, arith}
use Rattle.std.proofs.lemmas.List.{length-drop, take_rest}
use Rattle.chip_session.proofs.ProgressLemmas.{carries_on}
use Rattle.chip_session.proofs.server.Conversation.take_lines.Goals as goal

pub loop-taken-preserved : goal.loop-taken-preserved
loop-taken-preserved g c =
    let before = c.loop-taken.invariant in
    let line = c.in_ok-taken.ensures in
    record {
      carries = carries_on c.loop-taken.self (g.W.Write.contents c.loop-taken.writer.inner) c.take_line.new.self (g.W.Write.contents c.take_line.new.writer.inner) c.args.piece.now c.loop-taken.taken c.in_ok-taken.field-0 before.carries (rw take_rest at line.ok);
      within = omega (arith, line.count, length-drop c.loop-taken.taken c.args.piece.now);
      counted = omega (arith, line.taken, before.counted);
      failures = line.sound ∙ before.failures;
    }
