use Rattle.std.proofs.Common.{◌≡◌, length, rules, arith}
use Rattle.chip_facts.specs.Sets.{Holds}
use Rattle.chip_facts.specs.inner.Operations.{value_of}
use Rattle.chip_facts.proofs.BitSets.{holds_inside}
use Rattle.chip_facts.proofs.operation.Pairs.add_all.Goals as goal

pub returns-in-Some-clause-added : goal.returns-in-Some-clause-added
returns-in-Some-clause-added c = λ a small h flag.
    let there : Holds c.in-Some.made (value_of c.args.operation a c.args.second) = c.in-Some.ensures a small h flag in
    let size : length c.in-Some.made ≡ 4 = search rules in
    c.add_made.ensures.added _ (omega (arith, holds_inside c.in-Some.made _ there, size)) there
