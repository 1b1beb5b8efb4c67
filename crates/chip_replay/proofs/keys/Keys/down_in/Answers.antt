use Rattle.std.proofs.Common.{◌∙◌, length-set, arith}
use Rattle.chip_replay.specs.Keys.{is_down}
use Rattle.chip_replay.proofs.ByStep.{set_more}
use Rattle.chip_replay.proofs.keys.Keys.down_in.Goals as goal

pub loop-key-preserved : goal.loop-key-preserved
loop-key-preserved c =
    let before = c.loop-key.invariant in
    record {
      size = length-set c.loop-key.down c.loop-key.key _ ∙ before.size;
      set = set_more c.loop-key.down c.loop-key.key c.is_down.result (λ k. is_down c.args.self.now k c.args.step) (omega (arith, before.size)) before.set c.is_down.ensures;
    }
