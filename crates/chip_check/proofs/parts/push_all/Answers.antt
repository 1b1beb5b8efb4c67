use Rattle.std.proofs.Common.{ℕ, List, Bor}
use Rattle.chip_check.proofs.Pieces.{no_more, one_more}
use Rattle.chip_check.proofs.parts.push_all.Goals as goal

pub loop-part-preserved : goal.loop-part-preserved
loop-part-preserved c =
    one_more (λ (part : Bor (List ℕ)). part.now) c.args.text.now.items c.loop-part.text.items c.args.parts.now c.loop-part.part-index _ _
    c.loop-part-test.true c.loop-part.invariant c.in_ok-extend_from_slice.ensures.items

pub returns : goal.returns
returns c =
    no_more (λ (part : Bor (List ℕ)). part.now) c.args.text.now.items c.loop-part.text.items c.args.parts.now c.loop-part.part-index
    c.loop-part-test.false c.loop-part.invariant
