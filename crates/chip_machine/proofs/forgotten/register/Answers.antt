use Rattle.std.proofs.Common.{arith, ◌+◌}
use Rattle.chip_machine.proofs.Masks.{mask_of_one}
use Rattle.chip_machine.proofs.forgotten.register.Goals as goal

pub returns : goal.returns
returns c = rw c.number.ensures.value (mask_of_one (c.args.x + 3) (omega arith))
