use Rattle.std.proofs.Common.{ap, arith, length}
use Rattle.std.proofs.lemmas.List.{length-map}
use Rattle.chip_asm.specs.inner.KeptLine.{KeptLine}
use Rattle.chip_asm.proofs.WholeImage.{length-facts}
use Rattle.chip_asm.proofs.source.Source.lines.Goals as goal

pub returns-clause-told : goal.returns-clause-told
returns-clause-told c =
    let kept = c.self.inside.kept.lines in
    omega (arith, length-facts c.args.self.now.lines, c.len.ensures, kept.ok.0, length-map kept.items (λ (line : KeptLine). line.text), ap length (ap (λ t. t.lines) c.self.view_is))
