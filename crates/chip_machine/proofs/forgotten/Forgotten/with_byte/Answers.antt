use Rattle.std.proofs.Common.{◌≤◌, ◌<◌, ◌-◌, arith, refl, sym, ◌∙◌}
use Rattle.chip_machine.proofs.Masks.{byte_is, byte_more, byte_new}
use Rattle.chip_machine.proofs.forgotten.Forgotten.with_byte.Goals as goal

pub returns-clause-bytes : goal.returns-clause-bytes
returns-clause-bytes c k h =
    let self = c.self.inside in
    byte_is self.parts self.window _ _ refl c.self.invariant k
    ∙ byte_more self.window self.bytes _ k (sym (byte_is self.parts self.window self.bytes c.args.self c.self.view_is c.self.invariant k) ∙ h)

pub returns-clause-byte : goal.returns-clause-byte
returns-clause-byte c =
    let self = c.self.inside in
    let above : self.window ≤ c.args.at = omega arith in
    let low : c.args.at - self.window < 64 = omega arith in
    byte_is self.parts self.window _ _ refl c.self.invariant c.args.at ∙ byte_new self.window self.bytes c.args.at above low
