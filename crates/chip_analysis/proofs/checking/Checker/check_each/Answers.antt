use Rattle.std.proofs.lemmas.Result.{err_from_is_err_and}
use Rattle.std.proofs.Common.{◌+◌, ◌∙◌, ap, refl, sym, subst, Ok, Err}
use Rattle.chip_analysis.specs.inner.Covering.{checking_by}
use Rattle.chip_analysis.proofs.CheckLemmas.{ChecksSoFar, checks_all, checks_more, checks_none, checks_stop, one_found, one_unread}
use Rattle.chip_analysis.proofs.checking.Checker.check_each.Goals as goal

pub loop-name-init : goal.loop-name-init
loop-name-init g c =
    let checking = checking_by c.args.self.now in
    checks_none g.I.Read.remaining g.O.Write.contents checking c.args.names.now c.args.input.now c.args.output.now

pub loop-name-preserved : goal.loop-name-preserved
loop-name-preserved g c =
    let checking = checking_by c.args.self.now in
    let one = one_found g.I.Read.remaining g.O.Write.contents checking c.loop-name.input c.read_source.new.input
    c.loop-name.output c.deliver.new.output _ _ _ (Ok c.in_ok-one.one) c.deref.ensures.value c.in_ok-bytes.ensures.ok c.read_source.result _ c.answer_on-answer.result
    c.read_source.ensures.err c.as_bytes.ensures.value c.answer_on-answer.ensures c.in_ok-one.ensures.wanted c.in_ok-one.ensures.short in
    subst (ChecksSoFar g.I.Read.remaining g.O.Write.contents checking c.args.names.now c.args.input.now c.args.output.now
    (c.loop-name.name-index + 1) c.read_source.new.input c.deliver.new.output) (sym c.worse-ending.ensures)
    (checks_more g.I.Read.remaining g.O.Write.contents checking c.args.names.now c.args.input.now c.args.output.now
    c.loop-name.name-index _ _ c.loop-name.input c.read_source.new.input c.loop-name.output c.deliver.new.output
    c.loop-name.ending c.loop-name-test.true refl c.loop-name.invariant c.in_ok-one.one one)

pub returns-in_err-bytes : goal.returns-in_err-bytes
returns-in_err-bytes g c =
    let checking = checking_by c.args.self.now in
    let p = err_from_is_err_and c.from_residual.result c.from_residual.ensures.1 in
    rw (p.1 ∙ ap (λ e. Err e) p.2)
    (checks_stop g.I.Read.remaining g.O.Write.contents checking c.args.names.now c.args.input.now c.args.output.now
    c.loop-name.name-index _ _ c.loop-name.input c.read_source.new.input c.loop-name.output c.loop-name.output
    c.loop-name.ending c.loop-name-test.true refl c.loop-name.invariant _
    (one_unread g.I.Read.remaining g.O.Write.contents checking c.loop-name.input c.read_source.new.input
    c.loop-name.output _ _ _ refl c.in_err-bytes.ensures.err))

pub returns-in_err-one : goal.returns-in_err-one
returns-in_err-one g c =
    let checking = checking_by c.args.self.now in
    let p = err_from_is_err_and c.from_residual-in_err-one.result c.from_residual-in_err-one.ensures.1 in
    let one = one_found g.I.Read.remaining g.O.Write.contents checking c.loop-name.input c.read_source.new.input
    c.loop-name.output c.deliver.new.output _ _ _ (Err c.in_err-one.field-0.0) c.deref.ensures.value c.in_ok-bytes.ensures.ok c.read_source.result _ c.answer_on-answer.result
    c.read_source.ensures.err c.as_bytes.ensures.value c.answer_on-answer.ensures c.in_err-one.ensures.wanted c.in_err-one.ensures.short in
    rw (p.1 ∙ ap (λ e. Err e) p.2)
    (checks_stop g.I.Read.remaining g.O.Write.contents checking c.args.names.now c.args.input.now c.args.output.now
    c.loop-name.name-index _ _ c.loop-name.input c.read_source.new.input c.loop-name.output c.deliver.new.output
    c.loop-name.ending c.loop-name-test.true refl c.loop-name.invariant _ one)

pub returns : goal.returns
returns g c =
    let checking = checking_by c.args.self.now in
    checks_all g.I.Read.remaining g.O.Write.contents checking c.args.names.now c.args.input.now c.args.output.now
    c.loop-name.name-index c.loop-name.input c.loop-name.output c.loop-name.ending c.loop-name-test.false c.loop-name.invariant
