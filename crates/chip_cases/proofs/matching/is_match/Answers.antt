use Rattle.std.proofs.Common.{◌≡◌, arith, drop, false, true, get_or, length, subst, sym}
use Rattle.std.specs.Prelude.{◌↔◌}
use Rattle.chip_cases.specs.Matching.{Matches, texts}
use Rattle.chip_cases.specs.inner.Rows.{IsRow}
use Rattle.chip_cases.proofs.RowLemmas.{drop_before, row_ends}
use Rattle.chip_cases.proofs.matching.is_match.Goals as goal

pub loop-left-preserved : goal.loop-left-preserved
loop-left-preserved c =
    let behind = subst (IsRow (drop c.loop-left.left (texts c.args.expected.now)) (texts c.args.answered.now)) (sym c.deref.ensures.value) c.loop-left.invariant.row in
    record {
      within = omega arith;
      whole = c.in_ok-row-2.ensures.whole;
      row = subst (λ lines. IsRow lines (texts c.args.answered.now) c.in_ok-row-2.row.items) (sym (drop_before c.args.expected.now c.loop-left.left _ (omega arith) c.loop-left.invariant.within))
          (c.in_ok-row-2.ensures.row (drop c.loop-left.left (texts c.args.expected.now)) behind);
    }

pub returns : goal.returns
returns c =
    subst (λ bits. (get_or bits (length c.args.answered.now) false ≡ true) ↔ Matches (texts c.args.expected.now) (texts c.args.answered.now)) (sym c.as_slice-bits.ensures.value)
    (row_ends c.args.expected.now c.args.answered.now c.loop-left.row.items c.loop-left.left (omega arith) (omega arith) c.loop-left.invariant.row)
