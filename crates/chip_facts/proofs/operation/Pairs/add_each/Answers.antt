use Rattle.std.proofs.Common.{◌≡◌}
use Rattle.chip_facts.specs.inner.Operations.{value_of, flag_of, IsMade}
use Rattle.chip_facts.proofs.BitSets.{below_next}
use Rattle.chip_facts.proofs.operation.Pairs.add_each.Goals as goal

pub loop-a-preserved : goal.loop-a-preserved
loop-a-preserved c = record {
  kept = λ v b h. c.add.ensures.kept v b (c.loop-a.invariant.kept v b h);
  added = below_next c.args.firsts.now (λ a. flag_of c.args.operation a c.args.second ≡ c.args.flag → IsMade c.add.new.self (value_of c.args.operation a c.args.second) c.args.second)
      c.loop-a.a c.next-a-in-loop-a.result c.next-a-in-loop-a.ensures.none
      (λ a below h flag. c.add.ensures.kept _ _ (c.loop-a.invariant.added a below h flag)) c.add.ensures.added;
}
