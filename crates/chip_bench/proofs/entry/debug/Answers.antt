use Rattle.std.proofs.lemmas.Result.{err_from_is_err_and}
use Rattle.std.proofs.Common.{◌∙◌, ap, Err}
use Rattle.chip_bench.proofs.DoingLemmas.{debugs_file, debugs_refused, debugs_unsettled}
use Rattle.chip_bench.proofs.entry.debug.Goals as goal

pub returns-in_err-settings : goal.returns-in_err-settings
returns-in_err-settings g c =
    let p = err_from_is_err_and c.from_residual.result c.from_residual.ensures.1 in
    debugs_unsettled g.I.Read.remaining g.O.Write.contents c.args.input.now c.args.output.now c.args.given.source c.args.given.is_image c.args.arguments.now
    c.from_residual.result _ (p.1 ∙ ap (λ e. Err e) p.2) c.in_err-settings.ensures.err

pub returns-in_ok-source-in-Some : goal.returns-in_ok-source-in-Some
returns-in_ok-source-in-Some g c =
    let seeded = rw c.with_name_seed-seeded.ensures at c.answer_begun.ensures.answers in
    debugs_file g.I.Read.remaining g.O.Write.contents c.args.input.now c.answer_begun.new.input c.args.output.now c.answer_begun.new.output
    c.args.given.source c.args.given.is_image c.in-Some.name c.args.arguments.now c.in_ok-settings.settings c.in_ok-bytes-in-Some.bytes.items
    c.in_ok-source-in-Some.source.items c.answer_begun.result c.in-Some.is c.in_ok-settings.ensures.ok c.in_ok-source-in-Some.ensures.ok
    (rw c.deref-in-Some.ensures.value at seeded)

pub returns-in_err-source-in-Some : goal.returns-in_err-source-in-Some
returns-in_err-source-in-Some g c =
    let p = err_from_is_err_and c.from_residual-in_err-source-in-Some.result c.from_residual-in_err-source-in-Some.ensures.1 in
    debugs_refused g.I.Read.remaining g.O.Write.contents c.args.input.now c.args.output.now c.args.given.source c.args.given.is_image c.in-Some.name
    c.args.arguments.now c.in_ok-settings.settings c.in_ok-bytes-in-Some.bytes.items c.from_residual-in_err-source-in-Some.result _
    (p.1 ∙ ap (λ e. Err e) p.2) c.in-Some.is c.in_ok-settings.ensures.ok c.in_err-source-in-Some.ensures.err
