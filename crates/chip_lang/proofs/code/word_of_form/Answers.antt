use Rattle.std.proofs.Common.{◌∙◌, length, map, sym, ap, arith}
use Rattle.std.proofs.lemmas.Slice.Zip.{Zip-more, either_empty_from_Zip}
use Rattle.chip_lang.specs.Form.{row_of_form}
use Rattle.chip_lang.specs.Operand.{operand_of}
use Rattle.chip_lang.specs.Encoding.{word_of_form}
use Rattle.chip_lang.proofs.Fields.{field_put, all_put, some_left}
use Rattle.chip_lang.proofs.code.word_of_form.Goals as goal

pub loop-pattern-preserved : goal.loop-pattern-preserved
loop-pattern-preserved g c =
    let before = c.loop-pattern.invariant in
    let step = Zip-more c.loop-pattern.pattern-iterator c.next.new.self c.next.result (c.in-Some.pattern, c.in-Some.operand) c.in-Some.is c.next.ensures.steps in
    record {
      word = field_put _ _ _ _ _ _ _ _ (rw (step.0, step.1) at before.word) (sym c.field_of.ensures ∙ c.in_ok-word.was);
      left = omega (arith, ap length step.0, ap length step.1);
    }

pub returns-then-form-operands : goal.returns-then-form-operands
returns-then-form-operands g c =
    let before = c.loop-pattern.invariant in
    let at_end = either_empty_from_Zip c.loop-pattern.pattern-iterator c.next.new.self c.next.result c.in-None.is c.next.ensures.steps in
    all_put _ _ _ _ (word_of_form (row_of_form c.args.form.now) (map operand_of c.args.operands.now) (g.N.Names.symbols c.args.names.now)) before.word at_end (omega arith)

pub returns-else-form-operands : goal.returns-else-form-operands
returns-else-form-operands g c =
    let before = c.loop-pattern.invariant in
    let at_end = either_empty_from_Zip c.loop-pattern.pattern-iterator c.next.new.self c.next.result c.in-None.is c.next.ensures.steps in
    some_left _ _ _ _ (word_of_form (row_of_form c.args.form.now) (map operand_of c.args.operands.now) (g.N.Names.symbols c.args.names.now)) before.word at_end (λ same. absurd (omega arith))
