use Rattle.chip_machine.proofs.Relevant.{alike_steps, draws_grow, quiet_tick}
use Rattle.chip_machine.proofs.laws.alike_steps.Goals as goal

pub returns-clause-alike : goal.returns-clause-alike
returns-clause-alike c = alike_steps

pub returns-clause-draws : goal.returns-clause-draws
returns-clause-draws c = draws_grow

pub returns-clause-quiet : goal.returns-clause-quiet
returns-clause-quiet c = quiet_tick
