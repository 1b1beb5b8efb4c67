use Rattle.std.proofs.lemmas.Result.{err_from_is_err_and}
use Rattle.std.proofs.Common.{◌∙◌, ap, refl, Err}
use Rattle.std.specs.Prelude.{option_copied, option_map}
use Rattle.std.specs.Str.Lines.{lines}
use Rattle.chip_bench.specs.Doing.{ShowsTrace}
use Rattle.chip_bench.proofs.SessionLemmas.{unmade_session, with_session, without_session}
use Rattle.chip_bench.proofs.tracing.trace_source.Goals as goal

pub returns-in_err-opened : goal.returns-in_err-opened
returns-in_err-opened g c =
    let asked = c.args.asked in
    let p = err_from_is_err_and c.from_residual.result c.from_residual.ensures.1 in
    unmade_session g.O.Write.contents c.args.output.now c.args.output.now asked.settings asked.source.items asked.keys.bytes.items
    (ShowsTrace g.O.Write.contents c.args.output.now c.args.output.now c.args.shown.now (option_map lines (option_copied c.args.theirs))) c.from_residual.result _ (p.1 ∙ ap (λ e. Err e) p.2)
    (rw c.deref.ensures.value at c.in_err-opened.ensures.err) refl

pub returns-in-Ok : goal.returns-in-Ok
returns-in-Ok g c =
    let asked = c.args.asked in
    let is = rw (c.in-Ok.is, c.deref.ensures.value) at c.in_ok-opened.ensures.opened in
    with_session g.O.Write.contents c.args.output.now c.show-ended.new.output asked.settings asked.source.items asked.keys.bytes.items
    (ShowsTrace g.O.Write.contents c.args.output.now c.show-ended.new.output c.args.shown.now (option_map lines (option_copied c.args.theirs))) c.show-ended.result c.in-Ok.bench.session is c.show-ended.ensures

pub returns : goal.returns
returns g c =
    let asked = c.args.asked in
    let is = rw (c.in-Err.is, c.deref.ensures.value) at c.in_ok-opened.ensures.unopened in
    without_session g.O.Write.contents c.args.output.now c.refuse_source-ended.new.output asked.settings asked.source.items asked.keys.bytes.items
    (ShowsTrace g.O.Write.contents c.args.output.now c.refuse_source-ended.new.output c.args.shown.now (option_map lines (option_copied c.args.theirs))) c.refuse_source-ended.result c.in-Err.error is c.refuse_source-ended.ensures
