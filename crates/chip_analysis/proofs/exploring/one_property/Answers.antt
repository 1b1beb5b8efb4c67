use Rattle.std.proofs.Common.{inr, refl}
use Rattle.chip_analysis.proofs.exploring.one_property.Goals as goal

pub returns-in_ok-alone-in-Ok-clause-ok : goal.returns-in_ok-alone-in-Ok-clause-ok
returns-in_ok-alone-in-Ok-clause-ok c =
    (c.in-Ok.stated.property, c.in_ok-alone-in-Ok.ensures, rw (c.in-Ok.is, c.as_bytes.ensures.value) at c.in_ok-stated.ensures.stated)

pub returns-in_ok-push_property_fault-in-Err-clause-err : goal.returns-in_ok-push_property_fault-in-Err-clause-err
returns-in_ok-push_property_fault-in-Err-clause-err c = inr (_, refl)
