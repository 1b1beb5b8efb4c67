use Rattle.std.proofs.lemmas.Result.{err_from_is_err_and}
use Rattle.std.proofs.Common.{◌∙◌, ap, refl, Err}
use Rattle.chip_analysis.proofs.CheckLemmas.{checks, checks_bad, checks_unsettled, same_asked}
use Rattle.chip_analysis.proofs.checking.check.Goals as goal

pub returns-in_err-settings : goal.returns-in_err-settings
returns-in_err-settings g c =
    let p = err_from_is_err_and c.from_residual.result c.from_residual.ensures.1 in
    checks_unsettled g.I.Read.remaining g.O.Write.contents c.args.input.now c.args.input.now c.args.output.now c.args.output.now c.args.system.now.host.takes_color
    c.args.arguments.now c.from_residual.result _ (p.1 ∙ ap (λ e. Err e) p.2) refl refl c.in_err-settings.ensures.err

pub returns-in_err-allowed : goal.returns-in_err-allowed
returns-in_err-allowed g c =
    let p = err_from_is_err_and c.from_residual-in_err-allowed.result c.from_residual-in_err-allowed.ensures.1 in
    checks_bad g.I.Read.remaining g.O.Write.contents c.args.input.now c.args.input.now c.args.output.now c.args.output.now c.args.system.now.host.takes_color
    c.args.arguments.now c.from_residual-in_err-allowed.result c.in_ok-settings.settings c.in_ok-settings.ensures.ok _ (p.1 ∙ ap (λ e. Err e) p.2) refl refl
    c.in_err-allowed.ensures.err.0 c.in_err-allowed.ensures.err.1

pub returns : goal.returns
returns g c =
    checks g.I.Read.remaining g.O.Write.contents c.args.input.now c.check_each.new.input c.args.output.now c.check_each.new.output c.args.system.now.host.takes_color
    c.args.arguments.now c.check_each.result c.in_ok-settings.settings c.in_ok-settings.ensures.ok c.in_ok-allowed.allowed _ c.deref-names.result.now
    c.in_ok-allowed.ensures.ok
    (same_asked c.args.system.now.host.takes_color c.args.arguments.now c.in_ok-settings.settings c.in_ok-allowed.allowed c.paints.result c.gives_tape.result c.paints.ensures c.gives_tape.ensures)
    c.deref-names.ensures.value c.check_each.ensures
