use Rattle.std.proofs.Common.{◌≡◌, ◌≤◌, ◌^◌, false, slice_index_or, ap, ◌∙◌, arith}
use Rattle.chip_replay.specs.Mask.{mask}
use Rattle.chip_replay.proofs.KeyFacts.{mask-lt, pow-small}
use Rattle.chip_replay.proofs.keys.mask_of.Goals as goal

pub overflow_add-mask : goal.overflow_add-mask
overflow_add-mask c =
    let bound = mask-lt (λ key. slice_index_or c.args.down.now key false) c.loop-key.key in
    let few : 2 ^ c.loop-key.key ≤ 32768 = pow-small c.loop-key.key c.loop-key-test.true in
    omega (arith, c.loop-key.invariant)

pub returns : goal.returns
returns c =
    let all : c.loop-key.key ≡ 16 = omega arith in
    c.loop-key.invariant ∙ ap (mask (λ key. slice_index_or c.args.down.now key false)) all
