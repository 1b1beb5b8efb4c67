use Rattle.std.proofs.Common.{◌≡◌, ◌+◌, ◌%◌, ◌<◌, sym, subst, arith}
use Rattle.chip_machine.specs.Step.{index_past}
use Rattle.chip_facts.specs.inner.Indexes.{HoldsIndex}
use Rattle.chip_facts.proofs.transfer.Before.index_after.Goals as goal

pub returns-in-PastLast : goal.returns-in-PastLast
returns-in-PastLast c = λ i small h.
    let sum : i + (c.number-in-PastLast.result + 1) ≡ i + c.args.x + 1 = omega (arith, c.number-in-PastLast.ensures.value) in
    let few : c.number-in-PastLast.result + 1 < 256 = omega (arith, c.number-in-PastLast.ensures.value, c.number-in-PastLast.ensures.range) in
    subst (λ m. HoldsIndex c.sums-in-PastLast.result (index_past m c.args.x i)) (sym c.in-PastLast.is)
    (subst (λ n. HoldsIndex c.sums-in-PastLast.result (n % 65536)) sum
    (c.sums-in-PastLast.ensures i (c.number-in-PastLast.result + 1) small few h c.single-in-PastLast.ensures))
