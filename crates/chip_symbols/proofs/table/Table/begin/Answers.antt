use Rattle.std.proofs.Common.{◌∙◌, ap}
use Rattle.std.specs.FinMap as finite
use Rattle.chip_symbols.specs.Names.{values_of}
use Rattle.chip_symbols.specs.Tables.{Tables}
use Rattle.chip_symbols.specs.inner.Entries.{valued_in}
use Rattle.chip_symbols.proofs.NameValues.{values-found}
use Rattle.chip_symbols.proofs.SymbolSteps.{names_of, front-early}
use Rattle.chip_symbols.proofs.table.Table.begin.Goals as goal

pub returns-clause-before : goal.returns-clause-before
returns-clause-before c =
    ap (λ vs. finite.from_entries (valued_in (names_of c.self.inside.keys.keys) vs)) (c.take_back.ensures.past ∙ c.settle.ensures.past)
    ∙ values-found (names_of c.self.inside.keys.keys) _ _ c.self.invariant.0 c.self.invariant.1.0
    ∙ ap (λ (t : Tables). values_of t.symbols) c.self.view_is ∙ ap values_of c.reserve.ensures.symbols

pub returns-clause-symbols : goal.returns-clause-symbols
returns-clause-symbols c = λ early later is up over.
    front-early c.args.number _ c.take_back.new.entries.items c.self.inside.entries.items c.take_back.ensures.front c.take_back.ensures.ends c.take_back.ensures.stops early later
    (ap (λ (t : Tables). t.symbols) c.self.view_is ∙ c.reserve.ensures.symbols ∙ is) up over
