use Rattle.std.proofs.lemmas.Result.{err_from_is_err_and}
use Rattle.std.proofs.Common.{◌∙◌, ap, refl, Err}
use Rattle.chip_analysis.proofs.ProveLemmas.{proves_bad, proves_done, proves_unread, proves_unsettled}
use Rattle.chip_analysis.proofs.proving.prove.Goals as goal

pub returns-in_err-settings : goal.returns-in_err-settings
returns-in_err-settings g c =
    let p = err_from_is_err_and c.from_residual.result c.from_residual.ensures.1 in
    proves_unsettled g.I.Read.remaining g.O.Write.contents c.args.input.now c.args.input.now c.args.output.now c.args.output.now c.args.arguments.now
    c.from_residual.result _ (p.1 ∙ ap (λ e. Err e) p.2) refl refl c.in_err-settings.ensures.err

pub returns-in_err-keys : goal.returns-in_err-keys
returns-in_err-keys g c =
    let p = err_from_is_err_and c.from_residual-in_err-keys.result c.from_residual-in_err-keys.ensures.1 in
    proves_bad g.I.Read.remaining g.O.Write.contents c.args.input.now c.args.input.now c.args.output.now c.args.output.now c.args.arguments.now
    c.from_residual-in_err-keys.result c.in_ok-settings.settings c.in_ok-settings.ensures.ok _ (p.1 ∙ ap (λ e. Err e) p.2) refl refl
    c.in_err-keys.ensures.err.0 c.in_err-keys.ensures.err.1

pub returns-in_err-bytes : goal.returns-in_err-bytes
returns-in_err-bytes g c =
    let p = err_from_is_err_and c.from_residual-in_err-bytes.result c.from_residual-in_err-bytes.ensures.1 in
    proves_unread g.I.Read.remaining g.O.Write.contents c.args.input.now c.read_source.new.input c.args.output.now c.args.output.now c.args.arguments.now
    c.from_residual-in_err-bytes.result c.in_ok-settings.settings c.in_ok-settings.ensures.ok c.in_ok-keys.keys c.in_ok-keys.ensures.ok _
    (p.1 ∙ ap (λ e. Err e) p.2) refl c.in_err-bytes.ensures.err

pub returns : goal.returns
returns g c =
    proves_done g.I.Read.remaining g.O.Write.contents c.args.input.now c.read_source.new.input c.args.output.now c.prove_source.new.output c.args.arguments.now
    c.prove_source.result c.in_ok-settings.settings c.in_ok-settings.ensures.ok c.in_ok-keys.keys c.in_ok-keys.ensures.ok c.in_ok-bytes.bytes.items
    c.in_ok-bytes.ensures.ok (rw (c.deref.ensures.value) at c.prove_source.ensures)
