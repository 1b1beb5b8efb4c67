use Rattle.std.proofs.Common.{ap, ◌∙◌, arith}
use Rattle.std.specs.Str.Lines.{lines}
use Rattle.chip_asm.specs.Lines.{open_fault}
use Rattle.chip_asm.specs.Program.{image_of}
use Rattle.chip_views.proofs.ImageText.{image_of_text, opens}
use Rattle.chip_views.proofs.dis.source_of_image.Goals as goal

pub returns-clause-opens : goal.returns-clause-opens
returns-clause-opens c =
    ap open_fault c.in_ok-text.ensures ∙ opens c.args.image.now (λ k. let fits = c.type_inv.image k in omega (arith, fits)) c.requires

pub returns-clause-image : goal.returns-clause-image
returns-clause-image c =
    ap (λ text. image_of (lines text)) c.in_ok-text.ensures ∙ image_of_text c.args.image.now (λ k. let fits = c.type_inv.image k in omega (arith, fits)) c.requires
