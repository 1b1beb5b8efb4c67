use Rattle.std.proofs.Common.{◌∙◌, ap, subst, sym}
use Rattle.chip_lang.specs.Value.{value_of_name}
use Rattle.chip_symbols.specs.Names.{values_of}
use Rattle.chip_symbols.specs.Tables.{IsNumber, Tables}
use Rattle.chip_symbols.proofs.NameValues.{value-of-name}
use Rattle.chip_symbols.proofs.SymbolSteps.{names_of, value-found}
use Rattle.chip_symbols.proofs.table.ScopeNames.value.Goals as goal

pub returns-in-Some : goal.returns-in-Some
returns-in-Some c =
    let own : IsNumber (names_of c.table.inside.keys.keys) c.in-Some.id c.args.name.now = subst (λ (t : Tables). IsNumber t.keys c.in-Some.id c.args.name.now) (sym (c.table.view_is ∙ c.self.view_is)) c.in-Some.ensures in
    c.get.ensures ∙ value-found (names_of c.table.inside.keys.keys) _ _ c.args.name.now c.in-Some.id.number c.table.invariant.1.0 (own.within, own.named)
    ∙ sym (value-of-name _ c.args.name.now) ∙ ap (λ (t : Tables). value_of_name (values_of t.symbols) c.args.name.now) (c.table.view_is ∙ c.self.view_is)

pub returns-in-None : goal.returns-in-None
returns-in-None c =
    c.value_of.ensures ∙ sym (value-of-name _ c.args.name.now)
    ∙ ap (λ (t : Tables). value_of_name (values_of t.symbols) c.args.name.now) c.self.view_is
