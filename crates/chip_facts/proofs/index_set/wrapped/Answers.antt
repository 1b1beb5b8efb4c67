use Rattle.std.proofs.Common.{below_more}
use Rattle.chip_facts.proofs.index_set.wrapped.Goals as goal

pub loop-at-preserved : goal.loop-at-preserved
loop-at-preserved c = record {
  past = c.insert-in-loop-at.ensures.others 4096 c.loop-at.invariant.past;
  low = below_more _ _ (λ n h. c.insert-in-loop-at.ensures.others n (c.loop-at.invariant.low n h)) c.insert-in-loop-at.ensures.there;
}
