-- The cases of a file (chosen by this project).
use Rattle.std.specs.Prelude.{◌≡◌, ◌⊎◌, ℕ, Bool, true, false, List, [], ◌∷◌, map, if◌then◌else◌}
use Rattle.std.specs.Str.Lines.{lines}
use Rattle.chip_cases.specs.Lines.{begins_part, begins_source, ends_source, is_case, other_words}
use Rattle.chip_cases.specs.Steps.{expectation_of, steps_below}
use Rattle.chip_cases.specs.declared.case.Case.{Case}

-- The lines from the first command or case on. A line inside a source is neither. The first argument
-- is whether the given lines begin inside a source.
abbrev pub behind_setup : Bool → List (List ℕ) → List (List ℕ)
behind_setup in_source [] = []
behind_setup true (line ∷ lines) =
    if ends_source line then behind_setup false lines else behind_setup true lines
behind_setup false (line ∷ lines) =
    if begins_part line then line ∷ lines
    else if begins_source line then behind_setup true lines else behind_setup false lines

-- the lines from the first case on
abbrev pub behind_steps : List (List ℕ) → List (List ℕ)
behind_steps [] = []
behind_steps (line ∷ lines) = if is_case line then line ∷ lines else behind_steps lines

-- A case has this name and the commands in these lines.
pub record IsCase (name : List ℕ) (commands : List (List ℕ)) (case : Case) : Type 0 where
  pub named : case.name.now ≡ name
  pub steps : map expectation_of case.steps.items ≡ steps_below commands

-- The cases of lines that begin with a case: its name is in the first line, its commands come after
-- its setup, and the other cases come after its commands.
abbrev pub AreCasesOf : List (List ℕ) → List Case → Type 0
AreCasesOf lines [] = lines ≡ []
AreCasesOf lines (case ∷ cases) =
    (line : List ℕ) × ((below : List (List ℕ)) × (lines ≡ line ∷ below)
    × IsCase (other_words line) (behind_setup false below) case
    × AreCasesOf (behind_steps (behind_setup false below)) cases)

-- A file contains exactly one case, which has no name.
pub record IsOneCase (commands : List (List ℕ)) (cases : List Case) : Type 0 where
  pub case : Case
  pub alone : cases ≡ case ∷ []
  pub is_case : IsCase [] commands case
  pub no_other : behind_steps commands ≡ []

-- the cases of a file, given the lines after the setup that applies to all of them
abbrev pub AreCasesBehind : List (List ℕ) → List Case → Type 0
AreCasesBehind commands cases =
    IsOneCase commands cases
    ⊎ ((steps_below commands ≡ []) × AreCasesOf (behind_steps commands) cases)

-- the cases of a file
abbrev pub AreCases : List ℕ → List Case → Type 0
AreCases text cases = AreCasesBehind (behind_setup false (lines text)) cases
