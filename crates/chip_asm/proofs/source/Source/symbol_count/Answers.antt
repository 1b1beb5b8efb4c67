use Rattle.std.proofs.Common.{◌∙◌, ap, length}
use Rattle.chip_asm.proofs.Views.{symbols-view}
use Rattle.chip_asm.proofs.source.Source.symbol_count.Goals as goal

pub returns : goal.returns
returns c =
    c.symbol_count.ensures ∙ ap length (c.self.invariant.symbols ∙ symbols-view c.self.inside.kept.lines.items c.args.self.now.lines c.self.invariant.are_read (ap (λ t. t.lines) c.self.view_is))
