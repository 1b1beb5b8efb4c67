use Rattle.std.proofs.Common.{◌-◌, ◌<◌, arith}
use Rattle.chip_facts.proofs.BitSets.{holds_inside}
use Rattle.chip_facts.proofs.Shifts.{in_four}
use Rattle.chip_facts.proofs.byte_set.lowered.Goals as goal

pub returns : goal.returns
returns c = λ a least h.
    let small : a - c.args.by < 256 = omega (arith, holds_inside c.args.set.now a h, c.told-set) in
    in_four _ _ _ _ (a - c.args.by) small (λ is. c.lowered_word.ensures a least is h) (λ is. c.lowered_word-2.ensures a least is h) (λ is. c.lowered_word-3.ensures a least is h) (λ is. c.lowered_word-4.ensures a least is h)
