use Rattle.chip_verdicts.proofs.Reaching.{avoids_all, avoids_at_all}
use Rattle.chip_verdicts.proofs.laws.never_met_is_never.Goals as goal

pub returns-clause-rate : goal.returns-clause-rate
returns-clause-rate c = avoids_all

pub returns-clause-any_speed : goal.returns-clause-any_speed
returns-clause-any_speed c = avoids_at_all
