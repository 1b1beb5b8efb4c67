-- The file of `explore --keys-to`, if a script was found (chosen by this project). `wrote` says that a file
-- took these bytes, and only a write that succeeded establishes it.
use Rattle.std.specs.Prelude.{List, ℕ, Option, Some, None}
use Rattle.std.specs.Borrow.{Bor}
use Rattle.chip_explore.specs.declared.question.Outcome.{Outcome as SearchOutcome}
use Rattle.chip_explore.specs.declared.question.Outcome.TheVariants.{Found, Later, Within, Never}
use Rattle.chip_host.specs.Endings.{IsSomeWritten}

abbrev pub IsNamedWritten : (wrote : List ℕ → List ℕ → Type 0) → Option (Bor (List ℕ)) → Type 0
IsNamedWritten wrote None = Unit {0}
IsNamedWritten wrote (Some name) = IsSomeWritten (wrote name.now)

-- the script of any outcome is written; an outcome without a script has nothing to write
abbrev pub IsScriptWritten : (wrote : List ℕ → List ℕ → Type 0) → SearchOutcome
    → Option (Bor (List ℕ)) → Type 0
IsScriptWritten wrote (Found events step met) name = IsNamedWritten wrote name
IsScriptWritten wrote (Later events step met covered) name = IsNamedWritten wrote name
IsScriptWritten wrote (Within n) name = Unit {0}
IsScriptWritten wrote Never name = Unit {0}
