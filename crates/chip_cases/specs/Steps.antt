-- The commands of a case, and the expected lines below each (chosen by this project).
use Rattle.std.specs.Prelude.{ℕ, Bool, List, [], ◌∷◌, if◌then◌else◌}
use Rattle.chip_cases.specs.Lines.{begins_part, is_case, is_command, is_refused, is_skipped, other_words}
use Rattle.chip_cases.specs.Matching.{texts}
use Rattle.chip_cases.specs.declared.case.Step.{Step}

-- A command, whether a refusal is expected, and the expected lines.
pub record Expectation : Type 0 where
  pub command : List ℕ
  pub is_refused : Bool
  pub expected : List (List ℕ)

abbrev pub expectation_of : Step → Expectation
expectation_of step = record {
  command = step.command.now;
  is_refused = step.is_refused;
  expected = texts step.expected.items;
}

-- the expected lines among the lines below a command: those up to the next command or case, without
-- comments and empty lines
abbrev pub expected_below : List (List ℕ) → List (List ℕ)
expected_below [] = []
expected_below (line ∷ lines) =
    if begins_part line then []
    else if is_skipped line then expected_below lines else line ∷ expected_below lines

-- the expectation of a command's line, given the lines below that line
abbrev pub expectation : List ℕ → List (List ℕ) → Expectation
expectation line below = record {
  command = other_words line;
  is_refused = is_refused line;
  expected = expected_below below;
}

-- the commands in the given lines, up to the next case
abbrev pub steps_below : List (List ℕ) → List Expectation
steps_below [] = []
steps_below (line ∷ lines) =
    if is_case line then []
    else if is_command line then expectation line lines ∷ steps_below lines
    else steps_below lines
