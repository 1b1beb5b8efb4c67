use Rattle.std.proofs.Common.{◌∙◌, ap, sym}
use Rattle.std.specs.FinMap as finite
use Rattle.chip_symbols.specs.Names.{values_of}
use Rattle.chip_symbols.specs.Tables.{Tables}
use Rattle.chip_symbols.specs.inner.Entries.{valued_in}
use Rattle.chip_symbols.proofs.NameValues.{values-found}
use Rattle.chip_symbols.proofs.SymbolSteps.{names_of}
use Rattle.chip_symbols.proofs.table.Table.has_differences.Goals as goal

pub returns : goal.returns
returns c = λ none.
    sym (ap (λ (t : Tables). t.before) c.self.view_is)
    ∙ ap (λ vs. finite.from_entries (valued_in (names_of c.self.inside.keys.keys) vs)) (c.has_differences.ensures none)
    ∙ values-found (names_of c.self.inside.keys.keys) _ _ c.self.invariant.0 c.self.invariant.1.0
    ∙ ap (λ (t : Tables). values_of t.symbols) c.self.view_is
