use Rattle.std.proofs.Common.{◌≡◌, true, get_or, inl, inr, arith, subst}
use Rattle.std.proofs.lemmas.Bool.{cases_lt}
use Rattle.std.proofs.lemmas.List.Elements.{at_read}
use Rattle.chip_facts.specs.Facts.{is_among}
use Rattle.chip_facts.proofs.facts.executed_in.Goals as goal

pub loop-row-preserved : goal.loop-row-preserved
loop-row-preserved c = λ k d below.
    elim (cases_lt k c.loop-row.row-index) [
      | inl before ↦ c.mark.ensures.others _ (c.loop-row.invariant k d before)
      | inr here ↦
          let is : c.loop-row.row-index ≡ k = omega (arith, here, below) in
          subst (λ n. is_among c.mark.new.addresses.items (get_or c.args.rows.now n d).pc ≡ true) is
          (at_read c.args.rows.now (λ row. is_among c.mark.new.addresses.items row.pc ≡ true) c.loop-row.row-index c.row-item.result (omega arith) c.row-item.is c.mark.ensures.there d)
    ]
