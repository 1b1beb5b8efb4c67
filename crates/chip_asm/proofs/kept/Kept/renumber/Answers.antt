use Rattle.std.proofs.Common.{◌≡◌, ◌∙◌, ap, arith, length, refl}
use Rattle.std.proofs.lemmas.List.{with_items_is}
use Rattle.chip_asm.specs.inner.Records.{readings_in, texts_in}
use Rattle.chip_asm.proofs.KeptSteps.{kept-renumbered}
use Rattle.chip_asm.proofs.kept.Kept.renumber.Goals as goal

pub returns-in-Ok-clause-kept : goal.returns-in-Ok-clause-kept
returns-in-Ok-clause-kept c =
    let same : c.deref_mut.result.now ≡ c.args.self.now.lines.items = c.deref_mut.ensures.value in
    kept-renumbered c.args.self.now _ c.set_infos.new.lines c.requires
    (with_items_is c.args.self.now.lines c.set_infos.new.lines (omega (arith, c.set_infos.auto.lines, ap length same, c.args.self.now.lines.ok.0)))
    (c.set_infos.ensures.texts ∙ ap texts_in same) (c.set_infos.ensures.readings ∙ ap readings_in same) (omega (arith, c.set_infos.auto.lines, ap length same))
    (c.set_infos.ensures.infos c.in-Ok.names.keys (rw (same, c.deref_mut-in-Ok.ensures.value) c.in-Ok.ensures.infos)) c.in-Ok.ensures.symbols refl refl refl
