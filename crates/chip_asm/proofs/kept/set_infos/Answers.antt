use Rattle.std.proofs.Common.{◌<◌, length, arith, get_or, subst}
use Rattle.chip_asm.specs.declared.line_info.Numbered.{Numbered}
use Rattle.chip_asm.specs.inner.Infos.{IsInfo}
use Rattle.chip_asm.specs.inner.Records.{reading_in}
use Rattle.chip_asm.proofs.InfoSteps.{put-more, put-all}
use Rattle.chip_asm.proofs.kept.set_infos.Goals as goal

pub loop-place-preserved : goal.loop-place-preserved
loop-place-preserved c =
    let inside : c.loop-place.place < length c.loop-place.lines = omega (arith, c.loop-place-test.true, c.loop-place.auto.lines) in
    put-more c.loop-place.lines c.args.lines.now c.loop-place.infos c.args.infos.now c.loop-place.place c.index-lines-place.result c.renumber.new.self c.index-infos-place.result c.renumber.new.made c.loop-place.invariant inside
    c.index-infos-place.is c.renumber.ensures.text c.renumber.ensures.line
    (λ keys info. c.renumber.ensures.info keys (subst (λ (x : Numbered). IsInfo keys x.info x.several.items (reading_in (get_or c.loop-place.lines c.loop-place.place c.index-lines-place.result))) c.index-infos-place.is info))

pub returns-clause-infos : goal.returns-clause-infos
returns-clause-infos c = λ keys are.
    put-all keys c.loop-place.lines c.args.lines.now c.loop-place.infos c.args.infos.now c.loop-place.place c.loop-place.invariant (omega (arith, c.loop-place-test.false, c.loop-place.auto.lines)) are
