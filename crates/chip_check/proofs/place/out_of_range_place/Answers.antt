use Rattle.std.proofs.Common.{rules}
use Rattle.chip_check.proofs.OperandSpans.{found_in}
use Rattle.chip_check.proofs.place.out_of_range_place.Goals as goal

pub returns-in-Some-clause-rises : goal.returns-in-Some-clause-rises
returns-in-Some-clause-rises c =
    (found_in c.args.line.now.text c.args.span.start c.out_operand-index.result c.in-Some.found (search rules)).rises

pub returns-in-Some-clause-inside : goal.returns-in-Some-clause-inside
returns-in-Some-clause-inside c =
    (found_in c.args.line.now.text c.args.span.start c.out_operand-index.result c.in-Some.found (search rules)).inside
