use Rattle.std.proofs.Common.{◌≡◌, ◌+◌, ◌-◌, ◌%◌, ◌<◌, ◌∙◌, sym, subst, arith}
use Rattle.chip_facts.specs.Sets.{Holds}
use Rattle.chip_facts.specs.inner.Operations.{value_of, flag_of}
use Rattle.chip_facts.proofs.Shifts.{no_carry, borrows}
use Rattle.chip_facts.proofs.operation.made_at_once.Goals as goal

pub returns-in-Add : goal.returns-in-Add
returns-in-Add c = λ a small h.
    subst (λ op. flag_of op a c.args.second ≡ c.args.flag → Holds c.raised.result (value_of op a c.args.second)) (sym c.in-Add.is)
    (λ flag.
    let inside : a + c.args.second < 256 = no_carry a c.args.second (flag ∙ c.if-flag-eq0.true) in
    let is : (a + c.args.second) % 256 ≡ a + c.args.second = omega (arith, inside) in
    subst (Holds c.raised.result) (sym is) (c.raised.ensures a inside h))

pub returns-in-Subtract : goal.returns-in-Subtract
returns-in-Subtract c = λ a small h.
    subst (λ op. flag_of op a c.args.second ≡ c.args.flag → Holds c.raised-in-Subtract.result (value_of op a c.args.second)) (sym c.in-Subtract.is)
    (λ flag.
    let less : a < c.args.second = borrows a c.args.second (flag ∙ c.if-flag-eq0-2.true) in
    let inside : a + (256 - c.args.second) < 256 = omega (arith, less) in
    let is : (256 + a - c.args.second) % 256 ≡ a + (256 - c.args.second) = omega (arith, less, inside) in
    subst (Holds c.raised-in-Subtract.result) (sym is) (c.raised-in-Subtract.ensures a inside h))
