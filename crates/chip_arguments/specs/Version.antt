-- The output of `--version` (chosen by this project).
use Rattle.std.specs.Prelude.{ℕ, List, ◌++◌, codes}
use Rattle.chip_arguments.specs.declared.commands.TheConstants.{VERSION}

abbrev pub version_text : List ℕ
version_text = codes "chipbench " ++ (VERSION.now ++ codes "\n")
