use Rattle.chip_machine.proofs.Keyless.{keyless_step}
use Rattle.chip_machine.proofs.laws.keyless_step.Goals as goal

pub returns : goal.returns
returns c = keyless_step
