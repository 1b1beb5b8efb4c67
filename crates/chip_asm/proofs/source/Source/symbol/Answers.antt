use Rattle.std.proofs.Common.{◌∙◌, ap, map}
use Rattle.chip_lang.specs.Line.{upper}
use Rattle.chip_symbols.specs.Names.{lookup_name}
use Rattle.chip_asm.proofs.Views.{symbols-view}
use Rattle.chip_asm.proofs.source.Source.symbol.Goals as goal

pub returns : goal.returns
returns c =
    c.symbol_in_any_case.ensures
    ∙ ap (λ names. lookup_name names (map upper c.args.name.now)) (c.self.invariant.symbols ∙ symbols-view c.self.inside.kept.lines.items c.args.self.now.lines c.self.invariant.are_read (ap (λ t. t.lines) c.self.view_is))
