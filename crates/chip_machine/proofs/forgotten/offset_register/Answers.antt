use Rattle.std.proofs.Common.{◌+◌, ◌/◌, arith}
use Rattle.chip_machine.proofs.Masks.{mask_of_one}
use Rattle.chip_machine.proofs.forgotten.offset_register.Goals as goal

pub returns-else-quirks : goal.returns-else-quirks
returns-else-quirks c =
    rw (c.if-quirks.false, c.number.ensures.value) (mask_of_one (c.args.address / 256 + 3) (omega arith))
