use Rattle.std.proofs.Common.{◌≡◌, ◌∙◌, ◌-◌, arith, length, map, rules, take, ap, Some, sym}
use Rattle.std.proofs.lemmas.List.{length-take}
use Rattle.chip_lang.specs.Line.{reading_of}
use Rattle.chip_lang.specs.declared.limits.TheConstants.{IMAGE_START}
use Rattle.chip_asm.specs.Program.{faults_of_lines, image_of}
use Rattle.chip_asm.specs.inner.Records.{readings_in}
use Rattle.chip_asm.proofs.Resumed.{end-low}
use Rattle.chip_asm.proofs.Views.{layout-view}
use Rattle.chip_asm.proofs.WholeImage.{faults-counted, image-room, image-kept}
use Rattle.chip_asm.proofs.source.Source.image.Goals as goal

pub slice_bounds-result-count : goal.slice_bounds-result-count
slice_bounds-result-count c = rw c.self.invariant.laid_out.end_address (end-low (readings_in c.self.inside.kept.lines.items))

pub slice_bounds-result-length : goal.slice_bounds-result-length
slice_bounds-result-length c =
    let room = image-room c.self.inside.kept c.self.invariant in
    omega (arith, c.deref.ensures.len, length-take (c.self.inside.kept.layout.end - IMAGE_START) c.deref.result.now)

pub returns-then-layout-eq0-clause-value : goal.returns-then-layout-eq0-clause-value
returns-then-layout-eq0-clause-value c =
    ap (λ bytes. Some (take (c.self.inside.kept.layout.end - IMAGE_START) bytes)) c.deref.ensures.value
    ∙ sym (image-kept c.self.inside.kept c.self.invariant c.if-layout-eq0.true) ∙ ap (λ t. image_of t.lines) c.self.view_is

pub returns-else-layout-eq0-clause-value : goal.returns-else-layout-eq0-clause-value
unfolding image_of
returns-else-layout-eq0-clause-value c =
    let layout = c.self.inside.kept.layout in
    let lines = map reading_of c.args.self.now.lines in
    let counted : layout.faults ≡ length (faults_of_lines lines) = faults-counted layout lines (layout-view c.self.inside.kept c.args.self.now.lines c.self.invariant (ap (λ t. t.lines) c.self.view_is)) in
    search rules
