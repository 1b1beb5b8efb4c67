use Rattle.std.proofs.Common.{◌-◌, arith}
use Rattle.std.proofs.lemmas.List.{length-take}
use Rattle.std.proofs.lemmas.Result.{err_from_is_err_and}
use Rattle.chip_session.specs.declared.limits.TheConstants.{SCRIPT_BYTES}
use Rattle.chip_session.proofs.ProgressLemmas.{carries_front, carries_past}
use Rattle.chip_session.proofs.server.Conversation.take_piece.Goals as goal

pub returns-in_err-take_lines-clause-carries : goal.returns-in_err-take_lines-clause-carries
returns-in_err-take_lines-clause-carries g c =
    let p = err_from_is_err_and c.from_residual.result c.from_residual.ensures.1 in
    rw (p.1, p.2) (carries_front c.take_lines-2.new.self (g.W.Write.contents c.take_lines-2.new.writer.inner) c.args.piece.now _ c.in_err-take_lines.field-0.0 c.in_err-take_lines.ensures.carries)

pub returns-clause-carries : goal.returns-clause-carries
returns-clause-carries g c =
    let room = SCRIPT_BYTES - c.args.self.now.taken in
    carries_past c.take_lines-2.new.self (g.W.Write.contents c.take_lines-2.new.writer.inner) c.args.piece.now room c.if-piece-room.false
    (omega (arith, c.in_ok-take_lines.ensures.taken, length-take room c.args.piece.now)) c.in_ok-take_lines.ensures.carries
