use Rattle.std.proofs.Common.{◌≤◌, ◌<◌, ◌-◌, ◌^◌, arith, refl, sym, ◌∙◌}
use Rattle.chip_machine.proofs.Masks.{byte_is, byte_left}
use Rattle.chip_machine.proofs.forgotten.Forgotten.without_byte.Goals as goal

pub returns-clause-bytes : goal.returns-clause-bytes
returns-clause-bytes c k h other =
    let self = c.self.inside in
    let small : self.bytes < 2 ^ 64 = omega arith in
    let above : self.window ≤ c.args.at = omega arith in
    let low : c.args.at - self.window < 64 = omega arith in
    byte_is self.parts self.window _ _ refl c.self.invariant k
    ∙ byte_left self.window self.bytes c.args.at k small above low (sym (byte_is self.parts self.window self.bytes c.args.self c.self.view_is c.self.invariant k) ∙ h) other
