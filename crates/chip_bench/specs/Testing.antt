-- The results of `test` for files of cases (chosen by this project).
--     Passes, CasePasses     each answer of a case's session is as expected
--     SetBy, IsCaseSource, IsCaseKeys     the settings, the source and the key events that the lines of a case specify
--     JudgesCase, JudgesAll, JudgesFile    whether a case, all cases of a list, or the cases of a file pass
--     Tests                  how the program ends
use Rattle.std.specs.Prelude.{◌≡◌, ◌⊎◌, ℕ, ◌≤◌, ◌==◌, ◌&&◌, Bool, true, false, IsTrue, ◌↔◌, List, [], ◌∷◌, length, map, Option, Some, None, option_copied, Result, Ok, Err, if◌then◌else◌}
use Rattle.std.specs.Borrow.{Bor}
use Rattle.chip_arguments.specs.CommandArguments.{ReadsNumber, ReadsOr}
use Rattle.chip_machine.specs.QuirkList.{quirks_asked}
use Rattle.chip_arguments.specs.declared.command_line.SettingArguments.{SettingArguments}
use Rattle.chip_arguments.specs.declared.command_line.TestArguments.{TestArguments}
use Rattle.chip_asm.specs.Lines.{open_fault}
use Rattle.chip_cases.specs.Cases.{AreCases}
use Rattle.chip_cases.specs.Matching.{IsAnswered}
use Rattle.chip_cases.specs.Steps.{Expectation, expectation_of}
use Rattle.chip_cases.specs.declared.case.Case.{Case}
use Rattle.chip_cases.specs.declared.case.Placed.{Placed}
use Rattle.chip_cases.specs.declared.case.Setup.{Setup}
use Rattle.chip_cases.specs.declared.case.CaseSource.{CaseSource}
use Rattle.chip_cases.specs.declared.case.CaseSource.TheVariants as case_source
use Rattle.chip_lang.specs.declared.limits.TheConstants.{IMAGE_BYTES}
use Rattle.chip_replay.specs.declared.limits.TheConstants.{LEAST_SPACING}
use Rattle.chip_session.specs.KeyFile.{key_fault, session_under}
use Rattle.chip_host.specs.Endings.{failure_status}
use Rattle.chip_session.specs.Session.{Session, session_of}
use Rattle.chip_host.specs.SettingArguments.{settings_asked}
use Rattle.chip_session.specs.Settings.{SessionSettings}
use Rattle.chip_session.specs.Transcript.{after, reply}
use Rattle.chip_views.specs.Dis.{source_of_image}
use Rattle.chip_bench.specs.declared.case_run.Verdict.{Verdict}
use Rattle.chip_bench.specs.declared.case_run.Verdict.TheVariants as verdict
use Rattle.chip_host.specs.declared.ending.Ending.{Ending}
use Rattle.chip_host.specs.declared.ending.Ending.TheVariants.{Done, Faulty}
use Rattle.chip_host.specs.declared.ending.Failure.{Failure}
use Rattle.chip_host.specs.declared.limits.TheConstants.{KEY_FILE_BYTES, TEST_FILE_BYTES}

-- the session answers these commands, in order, as expected
abbrev pub Passes : Session → List Expectation → Type 0
Passes session [] = Unit {0}
Passes session (step ∷ steps) =
    IsAnswered step.expected (reply session step.command)
    × Passes (after session step.command) steps

-- A case passes if its source opens, all its key events can be added, and each answer of its
-- session is as expected.
pub record CasePasses (settings : SessionSettings) (source keys : List ℕ)
    (steps : List Expectation) : Type 0 where
  pub opens : open_fault source ≡ None
  pub made : key_fault (session_of settings source) keys ≡ None
  pub answers : Passes (session_under (session_of settings source) keys) steps

-- all answers were as expected
abbrev pub has_passed : Verdict → Bool
has_passed (verdict.Unopened fault) = false
has_passed (verdict.BadKeys number code) = false
has_passed (verdict.Answered others) = length others.items == 0

-- the text of a line of a case, if there is one
abbrev pub text_of : Option Placed → Option (List ℕ)
text_of None = None
text_of (Some placed) = Some placed.text.now

-- the settings that the lines of a case specify, with the same meaning as in the program's arguments
pub record SetBy (setup : Setup) (arguments : SettingArguments) : Type 0 where
  pub rate : ReadsOr 32 (text_of setup.rate) 10 arguments.rate
  pub tape : option_copied arguments.tape ≡ text_of setup.tape
  pub seed : ReadsNumber 64 (text_of setup.seed) arguments.seed
  pub quirks : quirks_asked (text_of setup.profile) (text_of setup.quirks) ≡ Some arguments.quirks
  pub spacing : ReadsOr 32 (text_of setup.every) LEAST_SPACING arguments.spacing

-- the text that `dis` prints for an image; no contract describes the bytes of that image
abbrev pub IsSourceOfImage : List ℕ → Type 0
IsSourceOfImage source =
    (image : List ℕ) × ((length image ≤ IMAGE_BYTES) × (source ≡ source_of_image image))

-- the source of a case: empty, its lines, the bytes of a file, which no contract describes, or the
-- text that `dis` prints for an image
abbrev pub IsCaseSource : CaseSource → List ℕ → Type 0
IsCaseSource case_source.Empty source = source ≡ []
IsCaseSource (case_source.Lines lines) source = source ≡ lines.now
IsCaseSource (case_source.File name) source = Unit {0}
IsCaseSource (case_source.Image name) source = IsSourceOfImage source

-- the key events of a case: none, or the bytes of a file that isn't too long
abbrev pub IsCaseKeys : Option Placed → List ℕ → Type 0
IsCaseKeys None keys = keys ≡ []
IsCaseKeys (Some name) keys = length keys ≤ KEY_FILE_BYTES

-- whether a case passes with the source, the key events and the settings that its lines specify
pub record JudgesCase (case : Case) (passes : Bool) : Type 0 where
  pub arguments : SettingArguments
  pub settings : SessionSettings
  pub source : List ℕ
  pub keys : List ℕ
  pub set_by : SetBy case.setup arguments
  pub settings_are : settings_asked arguments ≡ Some settings
  pub source_is : IsCaseSource case.setup.source source
  pub keys_are : IsCaseKeys case.setup.keys keys
  pub judged : IsTrue passes
      ↔ CasePasses settings source keys (map expectation_of case.steps.items)

-- whether all elements pass, if `Judges` states whether an element does
abbrev pub JudgesAll : {A : Type 0} → (A → Bool → Type 0) → List A → Bool → Type 0
JudgesAll Judges [] passes = passes ≡ true
JudgesAll Judges (x ∷ xs) passes =
    (one : Bool) × ((others : Bool)
    × Judges x one × JudgesAll Judges xs others × (passes ≡ (one && others)))

-- whether the cases of a file pass; contracts state nothing about the file's bytes except their maximum number
abbrev pub JudgesFile : Bor (List ℕ) → Bool → Type 0
JudgesFile name passes =
    (text : List ℕ) × ((cases : List Case) × (length text ≤ TEST_FILE_BYTES)
    × AreCases text cases × JudgesAll JudgesCase cases passes)

-- the failures that prevent a test: a file that can't be read or written, a file that doesn't
-- contain cases, a failure of the output, or a lack of memory
abbrev pub IsHindrance : Failure → Type 0
IsHindrance why = (failure_status why ≡ 3) ⊎ (failure_status why ≡ 4)

-- `test`: the status is 0 if all cases of all files pass, and 1 if one doesn't
abbrev pub Tests : TestArguments → Result Ending Failure → Type 0
Tests arguments (Ok ending) =
    (passes : Bool) × JudgesAll JudgesFile arguments.files.items passes
    × (ending ≡ (if passes then Done else Faulty))
Tests arguments (Err why) = IsHindrance why
