use Rattle.std.proofs.lemmas.Result.{err_from_is_err_and}
use Rattle.std.proofs.Common.{◌∙◌, ap, refl, Err}
use Rattle.chip_host.specs.Printing.{Prints}
use Rattle.chip_bench.specs.Printing.{printed_run}
use Rattle.chip_bench.proofs.DoingLemmas.{runs, runs_not}
use Rattle.chip_bench.proofs.SessionLemmas.{unmade_session, with_session, without_session}
use Rattle.chip_bench.proofs.entry.run.Goals as goal

pub returns-in_err-source : goal.returns-in_err-source
returns-in_err-source g c =
    let p = err_from_is_err_and c.from_residual.result c.from_residual.ensures.1 in
    runs_not g.I.Read.remaining g.O.Write.contents c.args.input.now c.read_asked.new.input c.args.output.now c.args.arguments.now c.from_residual.result _
    (p.1 ∙ ap (λ e. Err e) p.2) c.in_err-source.ensures.err

pub returns-in_err-opened : goal.returns-in_err-opened
returns-in_err-opened g c =
    let asked = c.in_ok-source.field-0 in
    let p = err_from_is_err_and c.from_residual-in_err-opened.result c.from_residual-in_err-opened.ensures.1 in
    runs g.I.Read.remaining g.O.Write.contents c.args.input.now c.read_asked.new.input c.args.output.now c.args.output.now
    c.args.arguments.now asked c.from_residual-in_err-opened.result c.in_ok-source.ensures.ok
    (unmade_session g.O.Write.contents c.args.output.now c.args.output.now asked.settings asked.source.items asked.keys.bytes.items
    (λ session. Prints g.O.Write.contents c.args.output.now c.args.output.now (printed_run session c.args.arguments.now.steps)) c.from_residual-in_err-opened.result _ (p.1 ∙ ap (λ e. Err e) p.2)
    (rw c.deref.ensures.value at c.in_err-opened.ensures.err) refl)

pub returns-in-Ok : goal.returns-in-Ok
returns-in-Ok g c =
    let asked = c.in_ok-source.field-0 in
    let is = rw (c.in-Ok.is, c.deref.ensures.value) at c.in_ok-opened.ensures.opened in
    runs g.I.Read.remaining g.O.Write.contents c.args.input.now c.read_asked.new.input c.args.output.now c.deliver-ended.new.output
    c.args.arguments.now asked c.deliver-ended.result c.in_ok-source.ensures.ok
    (with_session g.O.Write.contents c.args.output.now c.deliver-ended.new.output asked.settings asked.source.items asked.keys.bytes.items
    (λ session. Prints g.O.Write.contents c.args.output.now c.deliver-ended.new.output (printed_run session c.args.arguments.now.steps)) c.deliver-ended.result c.in-Ok.bench.session is (c.deliver-ended.ensures.wanted (printed_run c.in-Ok.bench.session c.args.arguments.now.steps) c.run_at-answer.ensures))

pub returns : goal.returns
returns g c =
    let asked = c.in_ok-source.field-0 in
    let is = rw (c.in-Err.is, c.deref.ensures.value) at c.in_ok-opened.ensures.unopened in
    runs g.I.Read.remaining g.O.Write.contents c.args.input.now c.read_asked.new.input c.args.output.now c.refuse_source-ended.new.output
    c.args.arguments.now asked c.refuse_source-ended.result c.in_ok-source.ensures.ok
    (without_session g.O.Write.contents c.args.output.now c.refuse_source-ended.new.output asked.settings asked.source.items asked.keys.bytes.items
    (λ session. Prints g.O.Write.contents c.args.output.now c.refuse_source-ended.new.output (printed_run session c.args.arguments.now.steps)) c.refuse_source-ended.result c.in-Err.error is c.refuse_source-ended.ensures)
