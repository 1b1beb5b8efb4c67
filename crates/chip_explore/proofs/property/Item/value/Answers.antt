use Rattle.std.proofs.Common.{ℕ, Option, unwrap_or, ap, sym, ◌∙◌}
use Rattle.std.proofs.lemmas.Option.{unwrap_or-slice_get}
use Rattle.chip_explore.specs.Property.{value_in}
use Rattle.chip_explore.specs.declared.property.Item.{Item}
use Rattle.chip_explore.proofs.property.Item.value.Goals as goal

pub returns-in-Byte : goal.returns-in-Byte
returns-in-Byte c =
    let m = c.args.machine.now in
    c.from-in-Byte.ensures
    ∙ c.unwrap_or.ensures
    ∙ ap (λ (byte : Option ℕ). unwrap_or byte 0) c.byte_at.ensures
    ∙ unwrap_or-slice_get m.memory c.in-Byte.at 0
    ∙ ap (λ (item : Item). value_in m item) (sym c.in-Byte.is)
