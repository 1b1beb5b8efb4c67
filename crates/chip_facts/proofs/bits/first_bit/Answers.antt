use Rattle.std.proofs.Common.{arith}
use Rattle.chip_facts.proofs.BitSets.{IsFirst, none_from, first_from}
use Rattle.chip_facts.proofs.bits.first_bit.Goals as goal

pub returns-then-rest-eq0-clause-none : goal.returns-then-rest-eq0-clause-none
returns-then-rest-eq0-clause-none c = λ i from small. none_from c.args.word c.args.from c.if-rest-eq0.true i from

pub returns-clause-most : goal.returns-clause-most
returns-clause-most c =
    let found : IsFirst c.args.word c.args.from _ = first_from c.args.word c.args.from c.ranges.word.fits c.if-rest-eq0.false in
    omega (arith, found.inside)

pub returns-clause-none : goal.returns-clause-none
returns-clause-none c = (first_from c.args.word c.args.from c.ranges.word.fits c.if-rest-eq0.false).none
