use Rattle.std.proofs.Common.{refl, subst, sym}
use Rattle.chip_asm.specs.Lines.{lines_of, open_fault}
use Rattle.chip_asm.specs.Program.{image_of}
use Rattle.chip_analysis.specs.Checking.{IsCheckText, IsPrintedCheckOf}
use Rattle.chip_host.specs.Printing.{Printed, ending_with, printed}
use Rattle.chip_analysis.specs.inner.Covering.{checking_by}
use Rattle.chip_analysis.proofs.CheckLemmas.{found_opened, found_unopened}
use Rattle.chip_analysis.proofs.checking.Checker.answer_on.Goals as goal

pub returns-in-Err : goal.returns-in-Err
returns-in-Err g c =
    let checking = checking_by c.args.self.now in
    found_unopened checking c.args.name.now c.args.bytes.now c.in-Err.error c.unopened.result
    c.in-Err.ensures.err c.unopened.ensures.answer c.unopened.ensures.memory

pub returns : goal.returns
returns g c =
    let checking = checking_by c.args.self.now in
    let lines = c.in-Ok.source.lines in
    let text = c.in_ok-text.text.items in
    subst (λ (w : Printed). IsPrintedCheckOf checking c.args.name.now (open_fault c.args.bytes.now) (lines_of c.args.bytes.now) w)
    (sym c.on.ensures)
    (found_opened checking c.args.name.now c.args.bytes.now lines (printed text (ending_with (image_of lines)))
    c.in-Ok.ensures.ok.0 c.in-Ok.ensures.ok.1 (
      c.in_ok-warnings.warnings.items,
      c.in_ok-warnings.ensures,
      subst (λ warnings. IsCheckText checking.is_json checking.is_painted c.args.name.now lines warnings text) c.deref.ensures.value c.in_ok-text.ensures,
      refl,
    ))
