use Rattle.std.proofs.Common.{arith, ◌+◌}
use Rattle.chip_machine.proofs.Masks.{mask_of_two}
use Rattle.chip_machine.proofs.forgotten.registers.Goals as goal

pub returns : goal.returns
returns c = rw (c.number.ensures.value, c.number-2.ensures.value) (mask_of_two (c.args.x + 3) (c.args.y + 3) (omega arith) (omega arith))
