use Rattle.std.proofs.Common.{◌+◌}
use Rattle.chip_facts.proofs.Shifts.{in_four}
use Rattle.chip_facts.proofs.byte_set.raised.Goals as goal

pub returns : goal.returns
returns c = λ a small h.
    in_four _ _ _ _ (a + c.args.by) small (λ is. c.raised_word.ensures a is h) (λ is. c.raised_word-2.ensures a is h) (λ is. c.raised_word-3.ensures a is h) (λ is. c.raised_word-4.ensures a is h)
