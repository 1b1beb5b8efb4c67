use Rattle.std.proofs.Common.{◌∙◌, sym, inr, arith}
use Rattle.chip_properties.specs.SeenProperty.{seen_sum}
use Rattle.chip_properties.specs.inner.Reads.{symbols_read}
use Rattle.chip_properties.specs.computed.Reading.{added_in}
use Rattle.chip_properties.specs.declared.separator.Separator.TheVariants.{Plus}
use Rattle.chip_properties.proofs.Loops.{failed, sum_full, sum_fails, sum_goes_on}
use Rattle.chip_properties.proofs.reader.Reader.sum.Goals as goal

pub returns-then-count-eq-MOST_TERMS : goal.returns-then-count-eq-MOST_TERMS
returns-then-count-eq-MOST_TERMS c =
    let so = rw c.in-Some.is at c.loop-rest.invariant.summed in
    inr (sym so ∙ sum_full (symbols_read c.args.self.now) Plus c.loop-rest.count (seen_sum c.loop-rest.sum) c.in-Some.tokens.tokens.now c.if-count-eq-MOST_TERMS.true)

pub returns-in_err-sum : goal.returns-in_err-sum
returns-in_err-sum c =
    let so = rw c.in-Some.is at c.loop-rest.invariant.summed in
    let front = c.split_around.result.0.tokens.now in
    failed seen_sum (added_in (symbols_read c.args.self.now) (seen_sum c.loop-rest.sum) front) _ c.from_residual.result c.in_err-sum.field-0.0
    c.from_residual.ensures.1 c.in_err-sum.ensures
    (λ none. sym so ∙ sum_fails (symbols_read c.args.self.now) Plus c.loop-rest.count (seen_sum c.loop-rest.sum) c.in-Some.tokens.tokens.now front
    c.if-count-eq-MOST_TERMS.false c.split_around.ensures.front none)

pub loop-rest-preserved : goal.loop-rest-preserved
loop-rest-preserved c =
    let so = rw c.in-Some.is at c.loop-rest.invariant.summed in
    let k = c.in_ok-sum.ensures in
    record {
      summed = sym (sum_goes_on (symbols_read c.args.self.now) Plus c.loop-rest.count (seen_sum c.loop-rest.sum) (seen_sum c.in_ok-sum.sum) c.in-Some.tokens.tokens.now
          c.split_around.result.0.tokens.now _ c.if-count-eq-MOST_TERMS.false c.split_around.ensures.front c.split_around.ensures.back k) ∙ so;
      few = omega arith;
    }
