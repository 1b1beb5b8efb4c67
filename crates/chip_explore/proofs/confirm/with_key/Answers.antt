use Rattle.std.proofs.Common.{◌≡◌, ℕ, ◌*◌, ◌%◌, ◌<◌, ◌≤◌, ◌^◌, Bool, true, false, cond, set, slice_index_or, ap, arith, ◌∙◌}
use mir.Val.{bool_byte}
use Rattle.chip_replay.specs.Mask.{mask}
use Rattle.chip_replay.proofs.KeyFacts.{mask-lt, mask-set, pow-small}
use Rattle.chip_explore.proofs.confirm.with_key.Goals as goal

digit : (b : Bool) (m : ℕ) → m ≤ 32768 → bool_byte b * m % 65536 ≡ cond b m 0
digit true m l = omega (arith, l)
digit false m l = omega arith

was : (r : ℕ) (b : Bool) (key : ℕ) → key < 16 → r ≡ bool_byte b → r * 2 ^ key % 65536 ≡ cond b (2 ^ key) 0
was r b key l is = ap (λ n. n * 2 ^ key % 65536) is ∙ digit b (2 ^ key) (pow-small key l)

pub overflow_sub-result : goal.overflow_sub-result
overflow_sub-result c =
    let lower = mask-set c.args.down.now c.args.key false 16 (omega (arith, c.told-down, c.requires.key)) c.requires.key in
    omega (arith, lower, c.requires.mask, was c.from.result _ c.args.key c.requires.key c.from.ensures)

pub overflow_add-result : goal.overflow_add-result
overflow_add-result c =
    let down = c.args.down.now in
    let later = mask-set down c.args.key c.args.is_down 16 (omega (arith, c.told-down, c.requires.key)) c.requires.key in
    let bound : mask (λ k. slice_index_or (set down c.args.key c.args.is_down) k false) 16 < 65536 = mask-lt (λ k. slice_index_or (set down c.args.key c.args.is_down) k false) 16 in
    let lower = mask-set down c.args.key false 16 (omega (arith, c.told-down, c.requires.key)) c.requires.key in
    omega (arith, lower, later, bound, c.requires.mask, was c.from.result _ c.args.key c.requires.key c.from.ensures, was c.from-2.result _ c.args.key c.requires.key c.from-2.ensures)

pub returns : goal.returns
returns c =
    let down = c.args.down.now in
    let later = mask-set down c.args.key c.args.is_down 16 (omega (arith, c.told-down, c.requires.key)) c.requires.key in
    let lower = mask-set down c.args.key false 16 (omega (arith, c.told-down, c.requires.key)) c.requires.key in
    omega (arith, lower, later, c.requires.mask, was c.from.result _ c.args.key c.requires.key c.from.ensures, was c.from-2.result _ c.args.key c.requires.key c.from-2.ensures)
