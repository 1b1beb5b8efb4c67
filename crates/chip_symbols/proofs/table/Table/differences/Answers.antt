use Rattle.std.proofs.Common.{◌∙◌, ◌<◌, ap, arith, length, not, subst, sym}
use Rattle.chip_lang.specs.Uses.{has_same_value}
use Rattle.chip_symbols.specs.Names.{values_of}
use Rattle.chip_symbols.specs.Tables.{Tables, key_at}
use Rattle.chip_symbols.proofs.NameValues.{same-at}
use Rattle.chip_symbols.proofs.SymbolSteps.{names_of}
use Rattle.chip_symbols.proofs.table.Table.differences.Goals as goal

pub returns : goal.returns
returns c = record {
  long = c.noted.ensures.long ∙ c.self.invariant.1.0.long ∙ ap (λ (t : Tables). length t.keys) c.self.view_is;
  each = λ n less.
      let h : n < length (names_of c.self.inside.keys.keys) = subst (λ (t : Tables). n < length t.keys) (sym c.self.view_is) less in
      c.noted.ensures.each n (omega (arith, h, c.self.invariant.1.0.long))
      ∙ ap not (same-at _ _ c.self.inside.values.past _ n c.self.invariant.0 c.self.invariant.1.0 h
      ∙ ap (λ (t : Tables). has_same_value t.before (values_of t.symbols) (key_at t.keys n)) c.self.view_is);
}
