use Rattle.std.proofs.lemmas.Result.{err_from_is_err_and}
use Rattle.std.proofs.Common.{◌∙◌, ap, Err}
use Rattle.chip_host.proofs.ReadingLemmas.{asked_is, unasked_source}
use Rattle.chip_host.proofs.reading.read_asked.Goals as goal

pub returns-in_err-source-clause-err : goal.returns-in_err-source-clause-err
returns-in_err-source-clause-err g c =
    let p = err_from_is_err_and c.from_residual-in_err-source.result c.from_residual-in_err-source.ensures.1 in
    unasked_source g.I.Read.remaining c.args.input.now c.read_given.new.input c.args.arguments.now c.in_ok-settings.settings c.in_ok-keys.keys.bytes.items
    c.from_residual-in_err-source.result _ (p.1 ∙ ap (λ e. Err e) p.2) c.in_ok-settings.ensures.ok c.in_ok-keys.ensures.ok c.in_ok-keys.ensures.bound
    c.in_err-source.ensures.err

pub returns-clause-ok : goal.returns-clause-ok
returns-clause-ok g c =
    asked_is g.I.Read.remaining c.args.input.now c.read_given.new.input c.args.arguments.now
    (record { source = c.in_ok-source.source; keys = c.in_ok-keys.keys; settings = c.in_ok-settings.settings; name = c.args.arguments.now.source })
    c.in_ok-settings.ensures.ok c.in_ok-keys.ensures.ok c.in_ok-keys.ensures.bound c.in_ok-source.ensures.ok
