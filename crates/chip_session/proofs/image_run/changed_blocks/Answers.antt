use Rattle.std.proofs.Common.{arith, ◌≡◌, ◌≤◌, ◌<◌, ◌*◌, ◌/◌, ◌⊎◌, inl, inr, ℕ, get_or}
use Rattle.std.proofs.lemmas.Bool.{cases_lt}
use Rattle.chip_session.proofs.SameParts.{same_in_rest, same_lists}
use Rattle.chip_session.proofs.image_run.changed_blocks.Goals as goal

pub returns-then-end-eq0-clause-places : goal.returns-then-end-eq0-clause-places
returns-then-end-eq0-clause-places c = same_lists c.args.old.now c.args.new.now (256 * (c.min-blocks.result / 256)) c.if-ne.ensures (omega arith) (omega arith)
    (λ i front. c.loop-block.invariant.2 i (omega arith) (omega arith))

pub returns-else-end-eq0-clause-places : goal.returns-else-end-eq0-clause-places
returns-else-end-eq0-clause-places c = record {
  before = λ i front. c.loop-block.invariant.1 i (omega arith) front;
  after = λ i behind. by i behind (cases_lt i (256 * (c.min-blocks.result / 256)));
}
  where
    by : (i : ℕ) → c.loop-block.end ≤ i → (i < 256 * (c.min-blocks.result / 256)) ⊎ (256 * (c.min-blocks.result / 256) ≤ i) → get_or c.args.old.now i 0 ≡ get_or c.args.new.now i 0
    by i behind (inl front) = c.loop-block.invariant.2 i (omega arith) behind
    by i behind (inr rest) = same_in_rest c.args.old.now c.args.new.now (256 * (c.min-blocks.result / 256)) c.if-ne.ensures i rest
