use Rattle.std.proofs.Common.{◌≡◌, ◌∙◌, sym, ap, arith}
use Rattle.chip_replay.specs.inner.Changes.{was_down}
use Rattle.chip_replay.proofs.ByStep.{was_down-above}
use Rattle.chip_replay.proofs.keys.Keys.before.Goals as goal

pub returns : goal.returns
returns c =
    let now = c.args.self.now in
    let step = c.args.step in
    record {
      size = c.down_in-down.ensures.size;
      as_mask = c.mask_of.ensures;
      before = λ s k ls lu l.
          (let here : s ≡ step = omega arith in
          ap (was_down now k) here ∙ was_down-above now k step (λ e. omega (arith, e)) ∙ sym (c.down_in-down.ensures.each k l));
    }
