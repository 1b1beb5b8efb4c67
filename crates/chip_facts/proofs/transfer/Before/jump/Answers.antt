use Rattle.std.proofs.Common.{sym, refl}
use Rattle.chip_machine.specs.Step.{effect, go_to}
use Rattle.chip_facts.proofs.Outcomes.{meets_one, ok_two}
use Rattle.chip_facts.proofs.transfer.Before.jump.Goals as goal

pub returns : goal.returns
unfolding effect
returns c = ok_two c.to.result _ _ _ c.to.ensures.next c.to.ensures.stored (λ out next stored s at keys.
    meets_one c.args.self.now.frames.now out s (go_to c.args.address s.core) _ next stored
    (record { same_flags = refl; tape_is = refl; quirks_are = refl; stop_is = refl })
    (record { pc = sym c.number.ensures.value; frames_are = at.frames_are; known = at.known }))
