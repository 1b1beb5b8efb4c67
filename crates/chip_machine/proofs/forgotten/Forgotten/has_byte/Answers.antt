use Rattle.std.proofs.Common.{◌≤◌, ◌<◌, ◌-◌, ◌^◌, arith, sym}
use Rattle.chip_machine.proofs.Masks.{byte_past}
use Rattle.chip_machine.proofs.forgotten.Forgotten.has_byte.Goals as goal

pub returns-then-place : goal.returns-then-place
returns-then-place c =
    let low : c.self.inside.bytes < 2 ^ 64 = omega arith in
    let far : 64 ≤ c.args.at - c.self.inside.window = omega arith in
    sym (byte_past c.self.inside.parts c.self.inside.window c.self.inside.bytes c.args.self c.self.view_is c.self.invariant c.args.at low far)
