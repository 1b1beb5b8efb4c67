-- The addresses that `check --cover` takes as executed (chosen by this project).
--     covered_step    the step up to which a search knows what is executed, or none if it knows that for
--                     all steps
--     IsCovered       the coverage of a source's machine, if it is asked for and the source has an image
--     IsCoverageOf    that coverage in the form that the warnings take
--     checking_by     what a checker is asked for
use Rattle.std.specs.Prelude.{◌≡◌, ℕ, ◌-◌, Bool, true, false, List, Option, Some, None}
use Rattle.chip_explore.specs.declared.question.Outcome.{Outcome}
use Rattle.chip_explore.specs.declared.question.Outcome.TheVariants.{Found, Later, Within, Never}
use Rattle.chip_machine.specs.Start.{start_of}
use Rattle.chip_session.specs.Settings.{SessionSettings}
use Rattle.chip_warnings.specs.declared.coverage.Coverage.{Coverage}
use Rattle.chip_analysis.specs.Checking.{Checking, IsCoverage}
use Rattle.chip_analysis.specs.Exploring.{usual_keys}
use Rattle.chip_analysis.specs.declared.checking.Checker.{Checker}
use Rattle.chip_analysis.specs.declared.covering.Covered.{Covered}

abbrev pub covered_step : Outcome → Option ℕ
covered_step (Found events step met) = Some (step - 1)
covered_step (Later events step met covered) = Some covered
covered_step (Within n) = Some n
covered_step Never = None

-- the coverage that `check` takes: nothing, unless it is asked for and there is an image; otherwise what the
-- image's machine executes under these settings, for all keys
abbrev pub IsCovered : (is_covering : Bool) → SessionSettings → (image : Option (List ℕ)) → Option Covered
    → Type 0
IsCovered true settings (Some image) (Some covered) =
    IsCoverage settings.rate usual_keys covered.executed
    (start_of image settings.tape settings.quirks) covered.within
IsCovered true settings (Some image) None = ⊥
IsCovered true settings None covered = covered ≡ None
IsCovered false settings image covered = covered ≡ None

abbrev pub IsCoverageOf : Option Covered → Option Coverage → Type 0
IsCoverageOf None coverage = coverage ≡ None
IsCoverageOf (Some covered) (Some coverage) =
    (coverage.executed.now ≡ covered.executed) × (coverage.within ≡ covered.within)
IsCoverageOf (Some covered) None = ⊥

abbrev pub checking_by : Checker → Checking
checking_by checker = record {
  is_json = checker.is_json;
  is_painted = checker.is_painted;
  is_covering = checker.is_covering;
  has_tape = checker.has_tape;
  allowed = checker.allowed;
  settings = checker.settings.now;
}
