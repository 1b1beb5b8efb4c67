use Rattle.std.proofs.Common.{rules, ◌≡◌, ◌∙◌, ◌+◌, ◌-◌, ◌∷◌, ◌++◌, [], ap, arith, false, get_or, length, length-append, subst, sym}
use Rattle.chip_cases.specs.Matching.{texts}
use Rattle.chip_cases.specs.inner.Rows.{IsRow}
use Rattle.chip_cases.proofs.RowLemmas.{last_bit, row_begins, row_steps}
use Rattle.chip_cases.proofs.matching.row_before.Goals as goal

pub loop-count-init : goal.loop-count-init
loop-count-init c =
    let items : c.push.new.self.items ≡ c.is_nothing_expected-is_here.result ∷ [] = search rules in
    record {
      long = ap length items;
      here = sym (ap (λ row. get_or row 0 false) items);
      rows = λ others is. subst (IsRow (c.args.line.now ∷ others) (texts c.args.answered.now)) (sym (items ∙ ap (λ bit. bit ∷ []) c.is_nothing_expected-is_here.ensures))
          (row_begins c.args.line.now others (texts c.args.answered.now) c.args.behind.now (omega arith) is);
    }

pub loop-count-preserved : goal.loop-count-preserved
loop-count-preserved c =
    let items : c.push-in-loop-count.new.self.items ≡ c.loop-count.row.items ++ c.stands_for-is_here.result ∷ [] = search rules in
    let longer : length (c.loop-count.row.items ++ c.stands_for-is_here.result ∷ []) ≡ length c.loop-count.row.items + 1 = length-append c.loop-count.row.items (c.stands_for-is_here.result ∷ []) in
    record {
      long = ap length items ∙ longer ∙ ap (λ n. n + 1) c.loop-count.invariant.long;
      here = last_bit c.loop-count.row.items c.stands_for-is_here.result c.loop-count.count c.loop-count.invariant.long ∙ sym (ap (λ row. get_or row (c.loop-count.count + 1 - 1) false) items);
      rows = λ others is. subst (IsRow (c.args.line.now ∷ others) (texts c.args.answered.now)) (sym items)
          (row_steps c.args.line.now others c.args.answered.now _ c.args.behind.now c.loop-count.row.items c.loop-count.count c.loop-count.is_here c.stands_for-is_here.result
          (omega arith) (omega arith) c.requires c.loop-count.invariant.long c.loop-count.invariant.here c.stands_for-is_here.ensures is (c.loop-count.invariant.rows others is));
    }
