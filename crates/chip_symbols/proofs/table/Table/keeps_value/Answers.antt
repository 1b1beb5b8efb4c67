use Rattle.std.proofs.Common.{◌≡◌, ◌∙◌, ◌<◌, ap, Bool, false, length, not, refl, subst, sym, true}
use Rattle.chip_lang.specs.Uses.{has_same_value}
use Rattle.chip_symbols.specs.Names.{values_of}
use Rattle.chip_symbols.specs.Tables.{Tables, key_at}
use Rattle.chip_symbols.proofs.NameValues.{same-at}
use Rattle.chip_symbols.proofs.SymbolSteps.{names_of}
use Rattle.chip_symbols.proofs.table.Table.keeps_value.Goals as goal

not_not : (b : Bool) → not (not b) ≡ b
not_not true = refl
not_not false = refl

pub returns : goal.returns
returns c =
    ap not c.differ.ensures ∙ not_not _
    ∙ same-at (names_of c.self.inside.keys.keys) _ c.self.inside.values.past _ c.args.id.number c.self.invariant.0 c.self.invariant.1.0
    (subst (λ (t : Tables). c.args.id.number < length t.keys) (sym c.self.view_is) c.requires)
    ∙ ap (λ (t : Tables). has_same_value t.before (values_of t.symbols) (key_at t.keys c.args.id.number)) c.self.view_is
