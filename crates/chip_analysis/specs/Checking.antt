-- The output of `check` for a source (chosen by this project).
--     IsCoverage, IsCoveredBy        the addresses that `check --cover` takes as executed
--     Checking, IsWarned, AreWarned  what is asked of `check`, and which warnings a source has then
--     IsCheckText, unopened_check, IsPrintedCheckOf    the text for a source, or the reason why it doesn't open
--     worse, with_ending             the ending of a list of sources
--     gives_tape                     whether the arguments give a tape
--     paints                         whether the output has colours
use Rattle.std.specs.Prelude.{◌≡◌, ℕ, ◌<◌, Bool, true, false, List, [], All, ◌||◌, is_some, IfSome, MatchOption, Option, Some, None, option_copied, Ok, Err}
use Rattle.chip_asm.specs.Program.{image_of}
use Rattle.chip_asm.specs.declared.refusal.OpenError.{OpenError}
use Rattle.chip_check.specs.Check.{IsChecked}
use Rattle.chip_check.specs.Json.{IsCheckJson}
use Rattle.chip_check.specs.Unopened.{unopened_object, unopened_report}
use Rattle.chip_host.specs.declared.ending.Ending.{Ending}
use Rattle.chip_host.specs.declared.ending.Ending.TheVariants.{Done, Faulty}
use Rattle.chip_host.specs.Printing.{Printed, printed, ending_with}
use Rattle.std.specs.Str.Lines.{lines}
use Rattle.chip_arguments.specs.declared.command_line.SettingArguments.{SettingArguments}
use Rattle.chip_arguments.specs.declared.command_line.ColorChoice.{ColorChoice}
use Rattle.chip_arguments.specs.declared.command_line.ColorChoice.TheVariants as color
use Rattle.chip_host.specs.Endings.{Outcome}
use Rattle.chip_explore.specs.Executed.{StaysAmong}
use Rattle.chip_explore.specs.declared.limits.TheConstants.{END}
use Rattle.chip_facts.specs.Facts.{AreFacts}
use Rattle.chip_facts.specs.declared.table.Left.{Left}
use Rattle.chip_machine.specs.Start.{start_of}
use Rattle.chip_machine.specs.State.{State}
use Rattle.chip_session.specs.Settings.{SessionSettings}
use Rattle.chip_warnings.specs.Warned.{kinds_told, warned}
use Rattle.chip_warnings.specs.Warnings.{StandsIn}
use Rattle.chip_warnings.specs.declared.asked.Asked.{Asked}
use Rattle.chip_warnings.specs.declared.coverage.Coverage.{Coverage}
use Rattle.chip_warnings.specs.declared.warning.Warning.{Warning}
use Rattle.chip_analysis.specs.Exploring.{usual_keys}

-- under no key script is a step made at another address than these, up to a step, or at any step below the end
abbrev pub IsCoverage : (rate keys : ℕ) → (executed : List Bool) → State → (within : Option ℕ) → Type 0
IsCoverage rate keys executed start (Some n) = StaysAmong rate keys executed start n
IsCoverage rate keys executed start None =
    (n : ℕ) → n < END → StaysAmong rate keys executed start n

-- what is asked of `check`, besides the sources: the form of the output, whether key scripts are searched for
-- the addresses that they execute, whether a tape is given, the set of warnings that are switched off, and the
-- settings
pub record Checking : Type 0 where
  pub is_json : Bool
  pub is_painted : Bool
  pub is_covering : Bool
  pub has_tape : Bool
  pub allowed : ℕ
  pub settings : SessionSettings

-- the coverage that the warnings of an image take: none, unless it is asked for; otherwise the addresses that the
-- image's machine executes under the settings, for all keys
abbrev pub IsCoveredBy : (is_covering : Bool) → SessionSettings → (image : List ℕ) → Option Coverage → Type 0
IsCoveredBy true settings image (Some covered) =
    IsCoverage settings.rate usual_keys covered.executed.now
    (start_of image settings.tape settings.quirks) covered.within
IsCoveredBy true settings image None = ⊥
IsCoveredBy false settings image covered = covered ≡ None

-- the warnings of a source with this image: those that the source has for what is asked, each at a place in the
-- source, and none of a kind that is switched off
pub record IsWarned (checking : Checking) (lines : List (List ℕ)) (image : List ℕ)
    (warnings : List Warning) : Type 0 where
  pub asked : Asked
  pub allowed : asked.allowed ≡ checking.allowed
  pub quirks : asked.quirks ≡ checking.settings.quirks
  pub tape : asked.has_tape ≡ checking.has_tape
  pub covered : IsCoveredBy checking.is_covering checking.settings image asked.coverage
  -- steps are made at no other addresses than these, with any keys, random bytes and speed
  pub reachable : IfSome (option_copied asked.reachable) (λ executed.
      (left : List Left) × AreFacts image checking.settings.quirks left executed)
  pub told : kinds_told warnings ≡ warned asked lines
  pub places : All (StandsIn checking.allowed lines) warnings

-- the warnings of a source; none if a line has a fault
abbrev pub AreWarned : Checking → (lines : List (List ℕ)) → List Warning → Type 0
AreWarned checking lines warnings =
    MatchOption (image_of lines) (warnings ≡ []) (λ image. IsWarned checking lines image warnings)

-- the output of `check`: text, in colours or without, or JSON objects
abbrev pub IsCheckText : (is_json is_painted : Bool) → (name : List ℕ) (lines : List (List ℕ))
    → List Warning → (text : List ℕ) → Type 0
IsCheckText false is_painted name lines warnings text = IsChecked is_painted name lines warnings text
IsCheckText true is_painted name lines warnings text = IsCheckJson name lines warnings text

-- the report of `check` on a source that doesn't open: text, in colours or without, or a JSON object
abbrev pub unopened_check : (is_json is_painted : Bool) → (name : List ℕ) → OpenError → List ℕ
unopened_check false is_painted name fault = unopened_report is_painted name fault
unopened_check true is_painted name fault = unopened_object name fault

-- the output of `check` for a source: if the source doesn't open, the reason; otherwise the reports of the
-- faults, and then those of the warnings
abbrev pub IsPrintedCheckOf : Checking → (name : List ℕ) → Option OpenError → (lines : List (List ℕ))
    → Printed → Type 0
IsPrintedCheckOf checking name (Some fault) lines wanted =
    wanted ≡ printed (unopened_check checking.is_json checking.is_painted name fault) Faulty
IsPrintedCheckOf checking name None lines wanted =
    (warnings : List Warning) × AreWarned checking lines warnings
    × IsCheckText checking.is_json checking.is_painted name lines warnings wanted.text
    × (wanted.ending ≡ ending_with (image_of lines))

-- the worse of two endings: the first one, unless that is `Done`
abbrev pub worse : Ending → Ending → Ending
worse Done later = later
worse ending later = ending

-- the ending of several sources: the worst of theirs, or what hinders a later one
abbrev pub with_ending : Ending → Outcome → Outcome
with_ending ending (Ok later) = Ok (worse ending later)
with_ending ending (Err why) = Err why

-- whether the arguments give a tape, or a seed that makes one
abbrev pub gives_tape : SettingArguments → Bool
gives_tape arguments = is_some arguments.tape || is_some arguments.seed

-- whether the output has colours; if the arguments leave that open, whether the output takes them
abbrev pub paints : ColorChoice → (takes_color : Bool) → Bool
paints color.Auto takes_color = takes_color
paints color.Always takes_color = true
paints color.Never takes_color = false
