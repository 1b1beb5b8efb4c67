use Rattle.std.proofs.Common.{◌∙◌, ap, sym}
use Rattle.chip_symbols.specs.Tables.{Tables, value_among}
use Rattle.chip_symbols.proofs.SymbolSteps.{absent-kept, found-kept, names_of, value-found, value-missing}
use Rattle.chip_symbols.proofs.table.Table.value_of.Goals as goal

pub returns-in_err-index : goal.returns-in_err-index
returns-in_err-index c =
    c.from_residual.ensures
    ∙ sym (value-missing (names_of c.self.inside.keys.keys) _ _ c.args.name.now c.self.invariant.1.0 (absent-kept c.self.inside.keys.keys c.args.name.now (sym c.in_err-index.ensures.index)))
    ∙ ap (λ (t : Tables). value_among t.symbols c.args.name.now) c.self.view_is

pub returns : goal.returns
returns c =
    c.get.ensures
    ∙ value-found (names_of c.self.inside.keys.keys) _ _ c.args.name.now c.in_ok-index.index c.self.invariant.1.0 (found-kept c.self.inside.keys.keys c.args.name.now c.in_ok-index.index (sym c.in_ok-index.ensures.index))
    ∙ ap (λ (t : Tables). value_among t.symbols c.args.name.now) c.self.view_is
