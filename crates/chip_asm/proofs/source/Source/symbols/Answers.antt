use Rattle.std.proofs.Common.{◌≡◌, ◌∙◌, ap}
use Rattle.chip_asm.specs.Program.{symbols_of}
use Rattle.chip_asm.proofs.Views.{symbols-view}
use Rattle.chip_asm.proofs.source.Source.symbols.Goals as goal

pub returns : goal.returns
returns c =
    let same : c.self.inside.kept.names.symbols ≡ symbols_of c.args.self.now.lines
    = c.self.invariant.symbols ∙ symbols-view c.self.inside.kept.lines.items c.args.self.now.lines c.self.invariant.are_read (ap (λ t. t.lines) c.self.view_is) in
    rw (← same) c.symbols.ensures
