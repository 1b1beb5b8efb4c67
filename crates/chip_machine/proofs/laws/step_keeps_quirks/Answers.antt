use Rattle.chip_machine.proofs.KeptParts.{step_keeps_quirks}
use Rattle.chip_machine.proofs.laws.step_keeps_quirks.Goals as goal

pub returns : goal.returns
returns c = step_keeps_quirks
