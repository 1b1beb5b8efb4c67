use Rattle.std.proofs.Common.{rules}
use Rattle.chip_machine.proofs.SameMachine.{profile_some}
use Rattle.chip_machine.specs.declared.profile.Profile.TheVariants as profile
use Rattle.chip_machine.proofs.profile.Profile.with_quirks.Goals as goal

pub returns-then-eq-clause-value : goal.returns-then-eq-clause-value
returns-then-eq-clause-value c = profile_some c.args.asked profile.Schip (search rules)

pub returns-then-eq-2-clause-value : goal.returns-then-eq-2-clause-value
returns-then-eq-2-clause-value c = profile_some c.args.asked profile.Vip (search rules)

pub returns-then-eq-3-clause-value : goal.returns-then-eq-3-clause-value
returns-then-eq-3-clause-value c = profile_some c.args.asked profile.Chip48 (search rules)

pub returns-then-eq-4-clause-value : goal.returns-then-eq-4-clause-value
returns-then-eq-4-clause-value c = profile_some c.args.asked profile.Schip10 (search rules)

pub returns-then-eq-5-clause-value : goal.returns-then-eq-5-clause-value
returns-then-eq-5-clause-value c = profile_some c.args.asked profile.SchipModern (search rules)

pub returns-then-eq-6-clause-value : goal.returns-then-eq-6-clause-value
returns-then-eq-6-clause-value c = profile_some c.args.asked profile.Octo (search rules)
