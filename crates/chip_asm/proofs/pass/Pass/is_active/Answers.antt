use Rattle.chip_lang.specs.SeenLine.{seen_body}
use Rattle.chip_asm.proofs.BlockSteps.{active_here, not_side}
use Rattle.chip_asm.proofs.pass.Pass.is_active.Goals as goal

pub returns-in_default : goal.returns-in_default
returns-in_default c = λ before f. active_here c.args.self.now before (seen_body c.args.body.now) (not_side c.args.body.now c.in_default.not-Else c.in_default.not-Endif) f
