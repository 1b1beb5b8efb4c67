use Rattle.std.proofs.Common.{arith}
use Rattle.chip_machine.proofs.Masks.{mask_of_first}
use Rattle.chip_machine.proofs.forgotten.first_registers.Goals as goal

pub returns : goal.returns
returns c = rw c.number.ensures.value (mask_of_first c.args.x (omega arith))
