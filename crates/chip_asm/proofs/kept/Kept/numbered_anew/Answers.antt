use Rattle.std.proofs.Common.{rules, ◌+◌, ◌∙◌, List, ap, arith, get_or, length, sym, subst, take}
use Rattle.chip_asm.specs.declared.line_info.Numbered.{Numbered}
use Rattle.chip_asm.specs.inner.Infos.{AreInfosOf, IsInfo}
use Rattle.chip_asm.specs.inner.KeptLine.{KeptLine}
use Rattle.chip_asm.specs.inner.Records.{reading_in, readings_in}
use Rattle.chip_asm.proofs.InfoSteps.{infos-of-more, infos-of-all}
use Rattle.chip_asm.proofs.kept.Kept.numbered_anew.Goals as goal

pub loop-kept-preserved : goal.loop-kept-preserved
loop-kept-preserved c =
    let line = c.kept-item.result in
    let same = ap length c.deref-kept-items.ensures.value in
    let is : IsInfo c.of.new.table.keys c.in_ok-made.made.info c.in_ok-made.made.several.items (reading_in line) = search rules in (
      c.of.ensures.symbols ∙ c.loop-kept.invariant.0,
      subst (λ (infos : List Numbered). AreInfosOf c.of.new.table.keys infos (readings_in (take (c.loop-kept.kept-index + 1) c.args.self.now.lines.items))) (sym c.in_ok-push.ensures.items)
          (infos-of-more c.loop-kept.names.keys c.of.new.table.keys c.loop-kept.infos.items c.in_ok-made.made c.args.self.now.lines.items c.loop-kept.kept-index line c.of.ensures.keys c.loop-kept.invariant.1
          (omega (arith, c.loop-kept-test.true, same)) (c.kept-item.is ∙ ap (λ (ls : List KeptLine). get_or ls c.loop-kept.kept-index line) c.deref-kept-items.ensures.value) is),
    )

pub returns-clause-symbols : goal.returns-clause-symbols
returns-clause-symbols c = c.loop-kept.invariant.0 ∙ c.in_ok-names.ensures

pub returns-clause-infos : goal.returns-clause-infos
returns-clause-infos c = infos-of-all c.loop-kept.names.keys c.loop-kept.infos.items c.args.self.now.lines.items c.loop-kept.kept-index (omega (arith, c.loop-kept-test.false, ap length c.deref-kept-items.ensures.value)) c.loop-kept.invariant.1
