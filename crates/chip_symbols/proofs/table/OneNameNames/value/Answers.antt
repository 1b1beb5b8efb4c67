use Rattle.std.proofs.Common.{◌≡◌, ◌∙◌, ap, sym}
use Rattle.std.proofs.lemmas.Slice.Eq.{bytes_eq-Decides}
use Rattle.chip_lang.specs.Value.{value_of_name}
use Rattle.chip_symbols.specs.Names.{values_of}
use Rattle.chip_symbols.specs.Tables.{Tables, value_among}
use Rattle.chip_symbols.proofs.NameValues.{value-of-name}
use Rattle.chip_symbols.proofs.table.OneNameNames.value.Goals as goal

pub returns-then-eq : goal.returns-then-eq
returns-then-eq c =
    let same : c.args.name.now ≡ c.self.inside.name.now = (bytes_eq-Decides _ _).0 (sym c.eq.ensures ∙ c.if-eq.true) in
    c.self.invariant ∙ ap (value_among c.self.inside.table.now.symbols) (sym same) ∙ sym (value-of-name _ c.args.name.now)
    ∙ ap (λ (t : Tables). value_of_name (values_of t.symbols) c.args.name.now) c.self.view_is

pub returns : goal.returns
returns c =
    c.value_of.ensures ∙ sym (value-of-name _ c.args.name.now)
    ∙ ap (λ (t : Tables). value_of_name (values_of t.symbols) c.args.name.now) c.self.view_is
