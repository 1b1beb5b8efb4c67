use Rattle.std.proofs.Common.{◌+◌, ◌*◌, ◌%◌, ◌^◌, ◌<◌, ℕ, arith, bit_or, refl}
use Rattle.std.proofs.lemmas.Nat.{or_lt}
use Rattle.chip_machine.proofs.Masks.{with_part, with_parts}
use Rattle.chip_machine.proofs.forgotten.Forgotten.with_register.Goals as goal

pub returns-clause-parts : goal.returns-clause-parts
returns-clause-parts c part h =
    let self = c.self.inside in
    let more : ℕ = 1 * 2 ^ (c.args.x + 3) % 4294967296 in
    let fits : self.parts < 2 ^ 32 = omega arith in
    let small : more < 2 ^ 32 = omega arith in
    with_parts self.parts self.window self.bytes c.args.self c.self.view_is c.self.invariant (bit_or self.parts more) self.bytes _ refl
    (or_lt 32 self.parts more fits small, c.self.invariant.1) more refl part h

pub returns-clause-register : goal.returns-clause-register
returns-clause-register c =
    let self = c.self.inside in
    let more : ℕ = 1 * 2 ^ (c.args.x + 3) % 4294967296 in
    let fits : self.parts < 2 ^ 32 = omega arith in
    let small : more < 2 ^ 32 = omega arith in
    with_part self.parts self.window self.bytes c.args.self c.self.view_is c.self.invariant (bit_or self.parts more) self.bytes _ refl
    (or_lt 32 self.parts more fits small, c.self.invariant.1) (c.args.x + 3) (omega arith) refl
