use Rattle.std.proofs.Common.{◌≡◌, ◌+◌, length, map}
use Rattle.std.specs.Slice.Iter.{iter_rest}
use Rattle.std.specs.Iterator.Adapters.{zip_first, zip_second}
use Rattle.chip_lang.specs.Form.{row_of_form}
use Rattle.chip_lang.specs.Operand.{operand_of}
use Rattle.chip_lang.specs.Encoding.{word_of_form}
use Rattle.chip_lang.proofs.Fields.{with_operands}
use Rattle.chip_lang.proofs.code.word_of_form.Given as goal

abbrev pub invariant-loop-pattern : goal.invariant-loop-pattern
invariant-loop-pattern g l =
    let patterns = iter_rest (zip_first l.pattern-iterator) in
    let operands = iter_rest (zip_second l.pattern-iterator) in
    record {
      word : with_operands l.word patterns operands (g.N.Names.symbols l.names) ≡ word_of_form (row_of_form l.form) (map operand_of l.operands) (g.N.Names.symbols l.names);
      left : length patterns + length l.operands ≡ length operands + length l.form.patterns.now;
    }
