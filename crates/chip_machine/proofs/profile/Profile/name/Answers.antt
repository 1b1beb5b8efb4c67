use Rattle.std.proofs.Common.{arith, refl}
use Rattle.chip_machine.proofs.profile.Profile.name.Goals as goal

pub returns-in-Schip10-clause-listed : goal.returns-in-Schip10-clause-listed
returns-in-Schip10-clause-listed c = (3, omega arith, refl)

pub returns-in-SchipModern-clause-listed : goal.returns-in-SchipModern-clause-listed
returns-in-SchipModern-clause-listed c = (4, omega arith, refl)
