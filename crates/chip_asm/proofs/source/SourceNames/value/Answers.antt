use Rattle.std.proofs.Common.{◌∙◌, ap}
use Rattle.chip_lang.specs.Value.{value_of_name}
use Rattle.chip_symbols.specs.Names.{values_of}
use Rattle.chip_asm.proofs.Views.{symbols-view}
use Rattle.chip_asm.proofs.source.SourceNames.value.Goals as goal

pub returns : goal.returns
returns c =
    c.value.ensures
    ∙ ap (λ names. value_of_name (values_of names) c.args.name.now)
    (ap (λ t. t.symbols) c.new.ensures ∙ c.self.invariant.symbols ∙ symbols-view c.self.inside.kept.lines.items c.args.self.now.lines c.self.invariant.are_read (ap (λ t. t.lines) c.self.view_is))
