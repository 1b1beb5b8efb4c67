use Rattle.std.proofs.Common.{◌+◌, Ok, Err, ap, inr}
use Rattle.std.proofs.lemmas.Result.{err_from_is_err_and}
use Rattle.chip_session.specs.Workbench.{Workbench}
use Rattle.chip_session.proofs.ProgressLemmas.{carries_all, carries_answer, carries_front, carries_part, no_newline, stopped_bound}
use Rattle.chip_session.proofs.server.Conversation.take_line.Goals as goal

pub returns-then-self-ge-SCRIPT_LINES-clause-err :
    goal.returns-then-self-ge-SCRIPT_LINES-clause-err
returns-then-self-ge-SCRIPT_LINES-clause-err g c = λ start before given r. stopped_bound c.args.bytes.now c.requires.some r (inr c.if-self-ge-SCRIPT_LINES.true)

pub returns-in_default-clause-ok : goal.returns-in_default-clause-ok
returns-in_default-clause-ok g c =
    let keep = c.in_ok-keep.ensures in
    let session = ap (λ (b : Workbench). b.session) keep.bench in
    carries_all c.keep.new.self _ c.args.bytes.now
    (carries_part c.keep.new.self c.args.bytes.now (no_newline c.args.bytes.now c.in_default.ensures) c.requires.room c.if-self-ge-SCRIPT_LINES.false
    session keep.line keep.complete keep.taken)

pub returns-in_err-complete_line-clause-err :
    goal.returns-in_err-complete_line-clause-err
returns-in_err-complete_line-clause-err g c =
    let e = c.in_err-complete_line.field-0.0 in
    let p = err_from_is_err_and c.from_residual-in_err-complete_line.result c.from_residual-in_err-complete_line.ensures.1 in
    let line = c.in_err-complete_line.ensures in
    let holds = g.W.Write.contents c.complete_line.new.writer.inner in
    rw (p.1, p.2) (carries_front c.complete_line.new.self holds c.args.bytes.now (c.in-Some.len + 1) e
    (carries_answer c.complete_line.new.self holds c.args.bytes.now c.in-Some.len (Err e) c.in-Some.ensures
    c.requires.room c.if-self-ge-SCRIPT_LINES.false line.said line.bench line.line line.complete line.taken))

pub returns-clause-ok : goal.returns-clause-ok
returns-clause-ok g c =
    let line = c.in_ok-complete_line.ensures in
    carries_answer c.complete_line.new.self (g.W.Write.contents c.complete_line.new.writer.inner) c.args.bytes.now c.in-Some.len (Ok tt) c.in-Some.ensures
    c.requires.room c.if-self-ge-SCRIPT_LINES.false line.said line.bench line.line line.complete line.taken
