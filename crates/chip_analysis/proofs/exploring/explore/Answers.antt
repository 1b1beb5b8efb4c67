use Rattle.std.proofs.lemmas.Result.{err_from_is_err_and}
use Rattle.std.proofs.Common.{◌∙◌, ap, refl, Err}
use Rattle.chip_asm.specs.Lines.{lines_of}
use Rattle.chip_analysis.specs.Commands.{Searches}
use Rattle.chip_analysis.proofs.ExploringLemmas.{explores_bad, explores_done, explores_unread, searches_short}
use Rattle.chip_host.proofs.OpenedLemmas.{opened_lines, unopened_lines}
use Rattle.chip_analysis.proofs.exploring.explore.Goals as goal

pub returns-in_err-sets : goal.returns-in_err-sets
returns-in_err-sets g c =
    let p = err_from_is_err_and c.from_residual-in_err-sets.result c.from_residual-in_err-sets.ensures.1 in
    explores_bad g.I.Read.remaining g.O.Write.contents c.args.input.now c.args.input.now c.args.output.now c.args.output.now c.args.arguments.now
    c.from_residual-in_err-sets.result c.in_ok-settings.settings _ c.in_ok-settings.ensures.ok (p.1 ∙ ap (λ e. Err e) p.2) refl refl
    c.in_err-sets.ensures.err

pub returns-in_err-source : goal.returns-in_err-source
returns-in_err-source g c =
    let p = err_from_is_err_and c.from_residual-in_err-source.result c.from_residual-in_err-source.ensures.1 in
    let sets = c.in_ok-sets.sets in
    explores_unread g.I.Read.remaining g.O.Write.contents c.args.input.now c.read_given.new.input c.args.output.now c.args.output.now c.args.arguments.now
    c.from_residual-in_err-source.result c.in_ok-settings.settings sets.causes sets.keys c.in_ok-settings.ensures.ok c.in_ok-sets.ensures.ok.0
    c.in_ok-sets.ensures.ok.1 _ (p.1 ∙ ap (λ e. Err e) p.2) refl c.in_err-source.ensures.err

pub returns-in-Ok : goal.returns-in-Ok
returns-in-Ok g c =
    let sets = c.in_ok-sets.sets in
    let new = c.search_opened-ended.new.output in
    explores_done g.I.Read.remaining g.O.Write.contents c.args.input.now c.read_given.new.input c.args.output.now new c.args.arguments.now
    c.search_opened-ended.result c.in_ok-settings.settings sets.causes sets.keys c.in_ok-settings.ensures.ok c.in_ok-sets.ensures.ok.0 c.in_ok-sets.ensures.ok.1
    c.in_ok-source.source.items c.in_ok-source.ensures.ok
    (opened_lines g.O.Write.contents c.args.output.now new c.in_ok-source.source.items c.search_opened-ended.result
    (Searches g.O.Write.contents c.args.output.now new c.args.arguments.now c.in_ok-settings.settings sets.causes sets.keys)
    c.in-Ok.opened.lines c.in-Ok.ensures.ok.0 c.in-Ok.ensures.ok.1 c.search_opened-ended.ensures)

pub returns : goal.returns
returns g c =
    let sets = c.in_ok-sets.sets in
    let new = c.refuse_source-ended.new.output in
    let bytes = c.in_ok-source.source.items in
    explores_done g.I.Read.remaining g.O.Write.contents c.args.input.now c.read_given.new.input c.args.output.now new c.args.arguments.now
    c.refuse_source-ended.result c.in_ok-settings.settings sets.causes sets.keys c.in_ok-settings.ensures.ok c.in_ok-sets.ensures.ok.0 c.in_ok-sets.ensures.ok.1
    bytes c.in_ok-source.ensures.ok
    (unopened_lines g.O.Write.contents c.args.output.now new bytes c.refuse_source-ended.result
    (Searches g.O.Write.contents c.args.output.now new c.args.arguments.now c.in_ok-settings.settings sets.causes sets.keys)
    c.in-Err.error c.in-Err.ensures.err c.refuse_source-ended.ensures
    (searches_short g.O.Write.contents c.args.output.now new c.args.arguments.now c.in_ok-settings.settings sets.causes sets.keys
    (lines_of bytes) c.refuse_source-ended.result))
