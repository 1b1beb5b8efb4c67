use Rattle.std.proofs.Common.{◌∙◌, ap, bit_and, inr, refl, sym}
use Rattle.chip_machine.specs.Forgotten.{uses}
use Rattle.chip_machine.proofs.Masks.{none_used}
use Rattle.chip_machine.proofs.forgotten.Forgotten.spoilt_by.Goals as goal

pub returns-then-self-uses_of-eq0 : goal.returns-then-self-uses_of-eq0
returns-then-self-uses_of-eq0 c =
    inr (
      refl,
      none_used c.self.inside.parts c.self.inside.window c.self.inside.bytes c.args.self.now c.self.view_is c.self.invariant (uses c.args.quirks c.args.instr.now)
          (ap (bit_and c.self.inside.parts) (sym c.uses_of.ensures) ∙ c.if-self-uses_of-eq0.true),
    )
