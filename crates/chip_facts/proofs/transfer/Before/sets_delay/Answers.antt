use Rattle.std.proofs.Common.{refl, ◌∙◌}
use Rattle.std.proofs.lemmas.Result.{IfOk-weaker}
use Rattle.chip_machine.specs.Step.{effect, next, reg}
use Rattle.chip_facts.proofs.transfer.Before.sets_delay.Goals as goal

pub returns : goal.returns
unfolding effect
returns c = IfOk-weaker c.on.result _ _ (λ out gives. λ s at keys. gives s (next (record s.core { delay = reg s.core c.args.x })) at (
    let one = at.known.each c.args.x c.values.ensures.range in
    record {
      pc_is = refl;
      frames_stay = refl;
      calm = record { same_flags = refl; tape_is = refl; quirks_are = refl; stop_is = refl };
      then_known = record {
        count = at.known.count;
        each = at.known.each;
        small = at.known.small;
        index = at.known.index;
        bound = c.bound.ensures _ one.small (c.values.ensures.each _ one.small ∙ one.among);
        size = at.known.size;
      };
    })) c.on.ensures
