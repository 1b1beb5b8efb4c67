use Rattle.std.proofs.Common.{◌∙◌, sym, length, arith}
use Rattle.std.proofs.lemmas.Grind.{same_number_lists}
use Rattle.std.proofs.lemmas.List.FromFn.{get_or-range_with_len, length-range_with_len}
use Rattle.chip_machine.proofs.touch.count_up.Goals as goal

pub returns : goal.returns
returns c =
    same_number_lists _ _ (c.loop-place.auto.numbers ∙ sym (length-range_with_len c.args.start (length c.args.numbers.now)))
    (λ k h. c.loop-place.invariant k (omega arith) ∙ sym (get_or-range_with_len c.args.start (length c.args.numbers.now) k 0 (omega arith)))
