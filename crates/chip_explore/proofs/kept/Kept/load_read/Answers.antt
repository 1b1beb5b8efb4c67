use Rattle.std.proofs.Common.{ap, ◌∙◌}
use Rattle.std.proofs.lemmas.Result.{IfOk-weaker}
use Rattle.chip_machine.specs.declared.parts.Parts.{Parts}
use Rattle.chip_explore.specs.declared.backdrop.Backdrop.{Backdrop}
use Rattle.chip_explore.specs.inner.Kept.{parts_of, state_with}
use Rattle.chip_explore.proofs.ReadLemmas.{reads_word, state_read}
use Rattle.chip_explore.proofs.kept.Kept.load_read.Goals as goal

pub parts_read-parts-requires-clause-place : goal.parts_read-parts-requires-clause-place
parts_read-parts-requires-clause-place c =
    reads_word c.args.base.now c.args.self.now.backdrop.value (parts_of c.args.self.now) c.args.register c.requires.reads

pub returns : goal.returns
returns c =
    let kept = c.args.self.now in
    let base = c.args.base.now in
    IfOk-weaker c.load.result _ _
    (λ answer loaded done.
    loaded done
    ∙ ap (λ (b : Backdrop). state_with c.parts_read-parts.result base b) c.deref.ensures
    ∙ ap (λ (p : Parts). state_with p base kept.backdrop.value) c.parts_read-parts.ensures
    ∙ state_read base kept.backdrop.value (parts_of kept) c.args.register c.args.value c.requires.reads)
    c.load.ensures
