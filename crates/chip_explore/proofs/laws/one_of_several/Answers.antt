use Rattle.chip_explore.proofs.OneOf.{answers_one, never_one}
use Rattle.chip_explore.proofs.laws.one_of_several.Goals as goal

pub returns-clause-answers : goal.returns-clause-answers
returns-clause-answers c = answers_one

pub returns-clause-any_speed : goal.returns-clause-any_speed
returns-clause-any_speed c = never_one
