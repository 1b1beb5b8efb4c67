use Rattle.std.proofs.Common.{◌≤◌, arith}
use Rattle.chip_facts.proofs.BitSets.{below_next}
use Rattle.chip_facts.proofs.byte_set.bound.Goals as goal

pub loop-b-preserved : goal.loop-b-preserved
loop-b-preserved c = below_next c.args.set.now (λ b. b ≤ c.loop-b.b) c.loop-b.b c.next-b-in-loop-b.result c.next-b-in-loop-b.ensures.none (λ b below h. omega (arith, below)) (omega arith)
