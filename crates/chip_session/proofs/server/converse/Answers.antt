use Rattle.std.proofs.lemmas.Result.{err_from_is_err_and}
use Rattle.std.proofs.Common.{◌<◌, take, ◌∙◌, [], length, refl, arith}
use Rattle.chip_session.proofs.ProgressLemmas.{reached_none}
use Rattle.chip_session.proofs.ServeLemmas.{exchanges, reader_failed, exchanged_stop, exchanged_end, exchanged_given_up, underway_piece, opens_stop, opened_stop, reader_kept, writer_counted}
use Rattle.chip_session.proofs.server.converse.Goals as goal

pub pieces-init : goal.pieces-init
pieces-init g c = record {
  told = λ all before h k. record {
    given = [];
    rest = all;
    read = refl;
    left_is = h;
    reached = reached_none c.args.conversation.now.bench.session before c.args.conversation.now _ refl c.requires.line c.requires.complete c.requires.taken k;
  };
  bound = omega (arith, c.requires.taken);
  reader_same = refl;
  writer_same = refl;
  room = refl;
}

pub returns-in-Err-clause-transcript : goal.returns-in-Err-clause-transcript
returns-in-Err-clause-transcript g c = exchanges _ _ _ _ (λ all before h k.
    reader_failed (g.R.Read.remaining c.read.new.self.inner) (c.pieces.invariant.told all before h k) c.in-Err.ensures.bytes)

pub pieces-preserved : goal.pieces-preserved
pieces-preserved g c = record {
  told = λ all before h k. underway_piece (g.R.Read.remaining c.read.new.self.inner) c.take_piece.new.self (g.W.Write.contents c.take_piece.new.writer.inner) (take c.in-Ok.count c.read.new.buf) (c.pieces.invariant.told all before h k) c.in-Ok.ensures.bytes.0 c.in_ok-take_piece-in-Ok.ensures.carries;
  bound = c.in_ok-take_piece-in-Ok.ensures.bound;
  reader_same = c.in-Ok.ensures.failures ∙ c.pieces.invariant.reader_same;
  writer_same = c.in_ok-take_piece-in-Ok.ensures.failures ∙ c.pieces.invariant.writer_same;
  room = c.read.auto.buf ∙ c.pieces.invariant.room;
}

pub returns-in_err-take_piece-in-Ok : goal.returns-in_err-take_piece-in-Ok
returns-in_err-take_piece-in-Ok g c =
    let e = c.in_err-take_piece-in-Ok.field-0.0 in
    let p = err_from_is_err_and c.from_residual-in_err-take_piece-in-Ok.result c.from_residual-in_err-take_piece-in-Ok.ensures.1 in
    rw (p.1, p.2) (record {
      transcript = exchanges _ _ _ _ (λ all before h k.
          exchanged_stop (g.R.Read.remaining c.read.new.self.inner) c.take_piece.new.self (g.W.Write.contents c.take_piece.new.writer.inner) (take c.in-Ok.count c.read.new.buf) e (c.pieces.invariant.told all before h k) c.in-Ok.ensures.bytes.0 c.in_err-take_piece-in-Ok.ensures.carries);
      source = opens_stop _ e refl;
      opened = opened_stop e _;
      reader_failed = reader_kept e _ _ _ c.in-Ok.ensures.failures c.pieces.invariant.reader_same;
      writer_failed = writer_counted e _ _ _ c.in_err-take_piece-in-Ok.ensures.failures c.pieces.invariant.writer_same;
    })

pub returns-in_err-end-in-Ok-eq0 : goal.returns-in_err-end-in-Ok-eq0
returns-in_err-end-in-Ok-eq0 g c =
    let e = c.in_err-end-in-Ok-eq0.field-0.0 in
    let p = err_from_is_err_and c.from_residual.result c.from_residual.ensures.1 in
    let bytes = rw c.in-Ok-eq0.field-0-test at c.in-Ok-eq0.ensures.bytes in
    let room : 0 < length c.read.new.buf = omega (arith, c.pieces.invariant.room, c.read.auto.buf) in
    rw (p.1, p.2) (record {
      transcript = exchanges _ _ _ _ (λ all before h k.
          exchanged_given_up (g.R.Read.remaining c.read.new.self.inner) (g.W.Write.contents c.end.new.writer.inner) e (c.pieces.invariant.told all before h k) bytes.0 (bytes.1 refl room) c.in_err-end-in-Ok-eq0.ensures.ended);
      source = opens_stop _ e refl;
      opened = opened_stop e _;
      reader_failed = reader_kept e _ _ _ c.in-Ok-eq0.ensures.failures c.pieces.invariant.reader_same;
      writer_failed = writer_counted e _ _ _ c.in_err-end-in-Ok-eq0.ensures.failures c.pieces.invariant.writer_same;
    })

pub returns-in-Ok-eq0-clause-transcript : goal.returns-in-Ok-eq0-clause-transcript
returns-in-Ok-eq0-clause-transcript g c =
    let bytes = rw c.in-Ok-eq0.field-0-test at c.in-Ok-eq0.ensures.bytes in
    let room : 0 < length c.read.new.buf = omega (arith, c.pieces.invariant.room, c.read.auto.buf) in
    exchanges _ _ _ _ (λ all before h k.
    exchanged_end (g.R.Read.remaining c.read.new.self.inner) (g.W.Write.contents c.end.new.writer.inner) (c.pieces.invariant.told all before h k) bytes.0 (bytes.1 refl room) c.in_ok-end-in-Ok-eq0.ensures.ended)
