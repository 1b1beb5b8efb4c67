-- Definitions for the private contracts of the sets that arguments ask for (chosen by this project).
use Rattle.std.specs.Prelude.{◌≡◌, ◌⊎◌, ℕ, List, Option, None}
use Rattle.chip_arguments.specs.declared.command_line.ExploreArguments.{ExploreArguments}
use Rattle.chip_analysis.specs.Commands.{IsBadSet}
use Rattle.chip_analysis.specs.Exploring.{AsksCauses, AsksKeys, cause_named, key_named, warning_named}
use Rattle.chip_host.specs.declared.ending.Failure.{Failure}
use Rattle.chip_analysis.specs.declared.sets.Item.{Item}
use Rattle.chip_analysis.specs.declared.sets.Item.TheVariants.{Cause, Key, Warning}

-- the number that a part of a list names
abbrev pub number_by : Item → List ℕ → Option ℕ
number_by Cause = cause_named
number_by Key = key_named
number_by Warning = warning_named

-- one of the sets that the arguments ask for can't be read
pub record IsBadSets (arguments : ExploreArguments) (why : Failure) : Type 0 where
  pub bad : IsBadSet why
  pub causes : Option ℕ
  pub keys : Option ℕ
  pub asks_causes : AsksCauses arguments causes
  pub asks_keys : AsksKeys arguments keys
  pub none : (causes ≡ None) ⊎ (keys ≡ None)
