use Rattle.std.proofs.Common.{◌∙◌, ◌++◌, ◌∷◌, [], ap, refl}
use Rattle.chip_properties.specs.inner.Told.{nothing, a_property, a_fault}
use Rattle.chip_properties.proofs.Told.{no_line, no_property}
use Rattle.chip_properties.proofs.properties.Properties.read_line.Goals as goal

pub returns-in_default : goal.returns-in_default
returns-in_default c = nothing (no_line c.args.source.now.lines c.args.number c.in_default.ensures.value) refl refl

pub returns-in_default-property_start : goal.returns-in_default-property_start
returns-in_default-property_start c =
    nothing (no_property c.args.source.now.lines c.args.number c.in-Some.line c.in-Some.ensures.value c.in_default-property_start.ensures.value) refl refl

pub returns-in_ok-reserve-in-Ok : goal.returns-in_ok-reserve-in-Ok
returns-in_ok-reserve-in-Ok c =
    let so = rw c.in-Ok.is at c.in_ok-stated.ensures in
    a_property so.0 so.1 (c.push_reserved.ensures.items ∙ ap (λ xs. xs ++ c.in-Ok.stated ∷ []) c.reserve.ensures.items) refl

pub returns-in_ok-reserve-in-Err : goal.returns-in_ok-reserve-in-Err
returns-in_ok-reserve-in-Err c =
    let so = rw c.in-Err.is at c.in_ok-stated.ensures in
    a_fault so.0 so.1 refl (c.push_reserved-in-Err.ensures.items ∙ ap (λ xs. xs ++ c.in-Err.fault ∷ []) c.reserve-in-Err.ensures.items)
