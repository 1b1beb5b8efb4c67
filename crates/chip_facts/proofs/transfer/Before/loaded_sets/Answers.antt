use Rattle.std.proofs.Common.{◌≡◌, ◌+◌, ◌*◌, sym, subst, inl, inr, arith}
use Rattle.std.proofs.lemmas.Bool.{cases_lt}
use Rattle.chip_facts.specs.Sets.{Holds}
use Rattle.chip_facts.proofs.transfer.Before.loaded_sets.Goals as goal

pub loop-y-preserved : goal.loop-y-preserved
loop-y-preserved c = record {
  loaded = λ y i b below top room small at value.
      elim (cases_lt y c.loop-y.y) [
        | inl before ↦
            c.put.ensures.others y b (omega arith) small (c.loop-y.invariant.loaded y i b before top room small at value)
        | inr here ↦
            let is : y ≡ c.loop-y.y = omega arith in
            subst (λ k. Holds c.put.new.self.registers (256 * k + b)) (sym is)
            (c.put.ensures.there b (c.loaded.ensures i b top (omega arith) small at (subst (λ k. Holds c.args.self.now.memory.now (256 * (i + k) + b)) is value)))
      ];
  others = λ y b later small h. c.put.ensures.others y b (omega arith) small (c.loop-y.invariant.others y b (omega arith) small h);
}
