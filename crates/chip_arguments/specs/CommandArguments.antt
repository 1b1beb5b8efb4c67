-- The command that the arguments ask for, given the values that `clap` finds in them (chosen by this project).
use Rattle.std.specs.Prelude.{◌≡◌, ℕ, ◌<◌, ◌^◌, Bool, true, false, List, [], ◌∷◌, codes, map, Option, Some, None, option_copied, is_some, unwrap_or, if◌then◌else◌}
use Rattle.std.specs.Char.{is_ascii_digit}
use Rattle.std.specs.List.{list_all}
use Rattle.std.specs.Str.{bytes_eq}
use Rattle.std.specs.Str.Parse.{IsNumeral, digits_value}
use Rattle.clap.specs.Kinds.{Kinds, or_else}
use Rattle.clap.specs.Words.{Row, all_of, fault_of, first_of, one_of, subcommand_of}
use Rattle.clap.specs.declared.error.kind.ErrorKind.TheVariants as kind
use Rattle.chip_machine.specs.QuirkList.{quirks_asked}
use Rattle.chip_machine.specs.declared.quirks.Quirks.{Quirks}
use Rattle.chip_replay.specs.declared.limits.TheConstants.{LEAST_SPACING}
use Rattle.chip_arguments.specs.CommandLine.{chipbench}
use Rattle.chip_arguments.specs.SettingArguments.{default_arguments}
use Rattle.chip_arguments.specs.declared.limits.TheConstants.{USUAL_MEMORY, USUAL_STATES}
use Rattle.chip_arguments.specs.declared.command_line.CommandLine.{CommandLine}
use Rattle.chip_arguments.specs.declared.command_line.CommandLine.TheVariants as line
use Rattle.chip_arguments.specs.declared.command_line.CheckArguments.{CheckArguments}
use Rattle.chip_arguments.specs.declared.command_line.ColorChoice.{ColorChoice}
use Rattle.chip_arguments.specs.declared.command_line.ColorChoice.TheVariants.{Always, Auto, Never}
use Rattle.chip_arguments.specs.declared.command_line.ExploreArguments.{ExploreArguments}
use Rattle.chip_arguments.specs.declared.command_line.PictureArguments.{PictureArguments}
use Rattle.chip_arguments.specs.declared.command_line.ProveArguments.{ProveArguments}
use Rattle.chip_arguments.specs.declared.command_line.RunArguments.{RunArguments}
use Rattle.chip_arguments.specs.declared.command_line.SearchArguments.{SearchArguments}
use Rattle.chip_arguments.specs.declared.command_line.SettingArguments.{SettingArguments}
use Rattle.chip_arguments.specs.declared.command_line.TestArguments.{TestArguments}
use Rattle.chip_arguments.specs.declared.command_line.TraceArguments.{TraceArguments}

-- the arguments that are numbers
abbrev pub numbers : List (List ℕ)
numbers =
    codes "steps" ∷ codes "states" ∷ codes "memory" ∷ codes "from" ∷ codes "rate" ∷ codes "seed"
    ∷ codes "every" ∷ codes "only" ∷ codes "seconds" ∷ codes "scale" ∷ []

-- the fault of a number that contains anything except decimal digits, such as a sign
abbrev pub number_fault : Option (List ℕ) → Kinds
number_fault None = []
number_fault (Some text) =
    if list_all is_ascii_digit text then [] else kind.ValueValidation ∷ []

-- the arguments that name a file to write
abbrev pub new_files : List (List ℕ)
new_files = codes "output" ∷ codes "pbm" ∷ codes "png" ∷ codes "keys-to" ∷ []

-- the fault of a file to write whose name means standard output
abbrev pub new_file_fault : Option (List ℕ) → Kinds
new_file_fault None = []
new_file_fault (Some name) =
    if bytes_eq name (codes "-") then kind.InvalidValue ∷ [] else []

-- the fault of a flag that is set together with an argument that can't be combined with it
abbrev pub clash_fault : (flag other : Option (List ℕ)) → Kinds
clash_fault (Some value) (Some text) =
    if bytes_eq value (codes "true") then kind.ArgumentConflict ∷ [] else []
clash_fault flag other = []

-- the fault of two arguments that can't be used together
abbrev pub both_fault : (first second : Option (List ℕ)) → Kinds
both_fault (Some one) (Some other) = kind.ArgumentConflict ∷ []
both_fault first second = []

-- the fault of a scale without a file for the picture
abbrev pub scale_fault : (scale bitmap png : Option (List ℕ)) → Kinds
scale_fault (Some scale) None None = kind.MissingRequiredArgument ∷ []
scale_fault scale bitmap png = []

-- the first fault of arguments that can't be used together: JSON and another trace, ASCII and a file for
-- the picture, two properties, or a scale without a file for the picture
abbrev pub clash_faults : List Row → Kinds
clash_faults rows =
    or_else (clash_fault (first_of (codes "json") rows) (first_of (codes "against") rows))
    (or_else (clash_fault (first_of (codes "ascii") rows) (first_of (codes "pbm") rows))
    (or_else (clash_fault (first_of (codes "ascii") rows) (first_of (codes "png") rows))
    (or_else (both_fault (first_of (codes "never") rows) (first_of (codes "always") rows))
    (scale_fault (first_of (codes "scale") rows) (first_of (codes "pbm") rows) (first_of (codes "png") rows)))))

-- the fault of a profile that doesn't exist, or of a list that isn't a list of choices of quirks
abbrev pub quirks_fault : (name list : Option (List ℕ)) → Kinds
quirks_fault name list =
    if is_some (quirks_asked name list) then [] else kind.InvalidValue ∷ []

-- the fault of an unknown word for the choice of colours
abbrev pub color_fault : Option (List ℕ) → Kinds
color_fault None = []
color_fault (Some word) =
    if bytes_eq word (codes "auto") then []
    else (if bytes_eq word (codes "always") then []
    else (if bytes_eq word (codes "never") then [] else kind.InvalidValue ∷ []))

-- the first fault of the values of these arguments
abbrev pub first_value_fault : (Option (List ℕ) → Kinds) → List (List ℕ) → List Row → Kinds
first_value_fault fault [] rows = []
first_value_fault fault (id ∷ ids) rows = or_else (fault (first_of id rows)) (first_value_fault fault ids rows)

-- the kinds of fault of values that `clap` accepts and the program doesn't
abbrev pub value_faults : List Row → Kinds
value_faults rows =
    or_else (first_value_fault number_fault numbers rows)
    (or_else (first_value_fault new_file_fault new_files rows)
    (or_else (clash_faults rows)
    (or_else (color_fault (first_of (codes "color") rows))
    (quirks_fault (first_of (codes "profile") rows) (first_of (codes "quirks") rows)))))

-- the kinds of fault of the values of a command, if the arguments name one
abbrev pub faults_below : Option (List ℕ × List Row) → Kinds
faults_below None = []
faults_below (Some command) = value_faults command.1

-- the kinds of fault of the arguments: those that `clap` finds, or otherwise those of the values
unfoldable pub argument_faults : List (List ℕ) → Kinds
argument_faults arguments =
    or_else (fault_of chipbench arguments) (faults_below (subcommand_of chipbench arguments))

-- a text of decimal digits whose number fits in that many bits
abbrev pub IsNumber : ℕ → List ℕ → Type 0
IsNumber bits text = IsNumeral 10 text × (digits_value 10 text < 2 ^ bits)

-- the number that a text represents, if there is a text and it is a number
abbrev pub ReadsNumber : ℕ → Option (List ℕ) → Option ℕ → Type 0
ReadsNumber bits None number = number ≡ None
ReadsNumber bits (Some text) None = IsNumber bits text → ⊥
ReadsNumber bits (Some text) (Some number) =
    IsNumber bits text × (number ≡ digits_value 10 text)

-- the number that a text represents, or otherwise the default
pub record ReadsOr (bits : ℕ) (text : Option (List ℕ)) (default number : ℕ) : Type 0 where
  pub read : Option ℕ
  pub reads : ReadsNumber bits text read
  pub number_is : number ≡ unwrap_or read default

-- the quirks that the values of a command ask for
abbrev pub AsksQuirks : List Row → Quirks → Type 0
AsksQuirks rows quirks =
    quirks_asked (first_of (codes "profile") rows) (first_of (codes "quirks") rows) ≡ Some quirks

-- the settings that the values of a command ask for
pub record AsksSettings (rows : List Row) (arguments : SettingArguments) : Type 0 where
  pub rate : ReadsOr 32 (first_of (codes "rate") rows) 10 arguments.rate
  pub tape : option_copied arguments.tape ≡ first_of (codes "tape") rows
  pub seed : ReadsNumber 64 (first_of (codes "seed") rows) arguments.seed
  pub quirks : AsksQuirks rows arguments.quirks
  pub spacing : ReadsOr 32 (first_of (codes "every") rows) LEAST_SPACING arguments.spacing

-- the text of a required value
abbrev pub needed : List ℕ → List Row → List ℕ
needed id rows = unwrap_or (first_of id rows) []

-- a flag is set if its value is `true`
pub record AsksFlag (value : Option (List ℕ)) (is_set : Bool) : Type 0 where
  pub set : value ≡ Some (codes "true") → is_set ≡ true
  pub unset : value ≡ Some (codes "false") → is_set ≡ false
  pub none : value ≡ None → is_set ≡ false

-- the run that the values of a command ask for
pub record AsksRun (rows : List Row) (arguments : RunArguments) : Type 0 where
  pub source : arguments.source.now ≡ needed (codes "source") rows
  pub is_image : AsksFlag (one_of (codes "image") rows) arguments.is_image
  pub steps : ReadsOr 32 (first_of (codes "steps") rows) 0 arguments.steps
  pub keys : option_copied arguments.keys ≡ first_of (codes "keys") rows
  pub settings : AsksSettings rows arguments.settings

-- the choice of colours that a word names; if there is no word, the program decides
abbrev pub color_asked : Option (List ℕ) → ColorChoice
color_asked None = Auto
color_asked (Some word) =
    if bytes_eq word (codes "always") then Always
    else (if bytes_eq word (codes "never") then Never else Auto)

-- the check that the values of a command ask for
pub record AsksCheck (rows : List Row) (arguments : CheckArguments) : Type 0 where
  pub sources : map (λ source. source.now) arguments.sources.items
      ≡ unwrap_or (all_of (codes "sources") rows) []
  pub is_json : AsksFlag (one_of (codes "json") rows) arguments.is_json
  pub allowed : option_copied arguments.allowed ≡ first_of (codes "allow") rows
  pub color : arguments.color ≡ color_asked (first_of (codes "color") rows)
  pub settings : AsksSettings rows arguments.settings
  pub is_covering : AsksFlag (one_of (codes "cover") rows) arguments.is_covering
  pub seconds : ReadsNumber 32 (first_of (codes "seconds") rows) arguments.seconds

-- the trace that the values of a command ask for
pub record AsksTrace (rows : List Row) (arguments : TraceArguments) : Type 0 where
  pub run : AsksRun rows arguments.run
  pub from : ReadsOr 32 (first_of (codes "from") rows) 0 arguments.from
  pub sums : AsksFlag (one_of (codes "hash") rows) arguments.sums
  pub is_json : AsksFlag (one_of (codes "json") rows) arguments.is_json
  pub against : option_copied arguments.against ≡ first_of (codes "against") rows

-- the picture that the values of a command ask for
pub record AsksPicture (rows : List Row) (arguments : PictureArguments) : Type 0 where
  pub run : AsksRun rows arguments.run
  pub ascii : AsksFlag (one_of (codes "ascii") rows) arguments.ascii
  pub bitmap : option_copied arguments.bitmap ≡ first_of (codes "pbm") rows
  pub png : option_copied arguments.png ≡ first_of (codes "png") rows
  pub scale : ReadsOr 32 (first_of (codes "scale") rows) 1 arguments.scale

-- the test that the values of a command ask for
pub record AsksTest (rows : List Row) (arguments : TestArguments) : Type 0 where
  pub files : map (λ file. file.now) arguments.files.items ≡ unwrap_or (all_of (codes "files") rows) []
  pub is_update : AsksFlag (one_of (codes "update") rows) arguments.is_update
  pub is_tap : AsksFlag (one_of (codes "tap") rows) arguments.is_tap

-- the settings of a search that the values of a command ask for
pub record AsksSearch (rows : List Row) (arguments : SearchArguments) : Type 0 where
  pub source : arguments.source.now ≡ needed (codes "source") rows
  pub steps : ReadsNumber 32 (first_of (codes "steps") rows) arguments.steps
  pub states : ReadsOr 32 (first_of (codes "states") rows) USUAL_STATES arguments.states
  pub memory : ReadsOr 32 (first_of (codes "memory") rows) USUAL_MEMORY arguments.memory
  pub seconds : ReadsNumber 32 (first_of (codes "seconds") rows) arguments.seconds
  pub is_deep : AsksFlag (one_of (codes "deep") rows) arguments.is_deep
  pub is_any_speed : AsksFlag (one_of (codes "any-speed") rows) arguments.is_any_speed
  pub allowed_keys : option_copied arguments.allowed_keys ≡ first_of (codes "keys-allowed") rows
  pub keys_to : option_copied arguments.keys_to ≡ first_of (codes "keys-to") rows
  pub is_progress_shown : AsksFlag (one_of (codes "progress") rows) arguments.is_progress_shown
  pub is_without_facts : AsksFlag (one_of (codes "no-facts") rows) arguments.is_without_facts
  pub settings : AsksSettings rows arguments.settings

-- the search of `explore` that the values of a command ask for
pub record AsksExplore (rows : List Row) (arguments : ExploreArguments) : Type 0 where
  pub search : AsksSearch rows arguments.search
  pub is_image : AsksFlag (one_of (codes "image") rows) arguments.is_image
  pub causes : option_copied arguments.causes ≡ first_of (codes "want") rows
  pub place : option_copied arguments.place ≡ first_of (codes "reach") rows
  pub never : option_copied arguments.never ≡ first_of (codes "never") rows
  pub always : option_copied arguments.always ≡ first_of (codes "always") rows
  pub is_covering : AsksFlag (one_of (codes "cover") rows) arguments.is_covering

-- which properties the values of a command ask `prove` to answer, and how
pub record AsksProve (rows : List Row) (arguments : ProveArguments) : Type 0 where
  pub search : AsksSearch rows arguments.search
  pub only : ReadsNumber 32 (first_of (codes "only") rows) arguments.only
  pub is_json : AsksFlag (one_of (codes "json") rows) arguments.is_json

-- The command that the name and the values of a command ask for.
abbrev pub Asks : List ℕ → List Row → CommandLine → Type 0
Asks name rows (line.Asm source image) =
    (name ≡ codes "asm") × (source.now ≡ needed (codes "source") rows)
    × (image.now ≡ needed (codes "output") rows)
Asks name rows (line.List source is_image is_hex) =
    (name ≡ codes "list") × (source.now ≡ needed (codes "source") rows)
    × AsksFlag (one_of (codes "image") rows) is_image × AsksFlag (one_of (codes "hex") rows) is_hex
Asks name rows (line.Syms source is_hex) =
    (name ≡ codes "syms") × (source.now ≡ needed (codes "source") rows)
    × AsksFlag (one_of (codes "hex") rows) is_hex
Asks name rows (line.Check arguments) = (name ≡ codes "check") × AsksCheck rows arguments
Asks name rows (line.Dis image) = (name ≡ codes "dis") × (image.now ≡ needed (codes "image") rows)
Asks name rows (line.Run arguments) = (name ≡ codes "run") × AsksRun rows arguments
Asks name rows (line.Trace arguments) = (name ≡ codes "trace") × AsksTrace rows arguments
Asks name rows (line.Picture arguments) = (name ≡ codes "picture") × AsksPicture rows arguments
Asks name rows (line.Test arguments) = (name ≡ codes "test") × AsksTest rows arguments
Asks name rows (line.Explore arguments) = (name ≡ codes "explore") × AsksExplore rows arguments
Asks name rows (line.Prove arguments) = (name ≡ codes "prove") × AsksProve rows arguments
Asks name rows (line.Explain code) =
    (name ≡ codes "explain") × (option_copied code ≡ first_of (codes "code") rows)
Asks name rows line.Licences = name ≡ codes "licences"
Asks name rows (line.Debug source is_image is_quiet settings) =
    (name ≡ codes "debug")
    × (option_copied source ≡ first_of (codes "source") rows)
    × AsksFlag (one_of (codes "image") rows) is_image
    × AsksFlag (one_of (codes "quiet") rows) is_quiet × AsksSettings rows settings

-- the command that the arguments ask for, given the command that they name; if they name none, a session on
-- the empty source
abbrev pub AsksBy : Option (List ℕ × List Row) → CommandLine → Type 0
AsksBy None asked = asked ≡ line.Debug None false false default_arguments
AsksBy (Some command) asked = Asks command.0 command.1 asked

unfoldable pub AsksFor : List (List ℕ) → CommandLine → Type 0
AsksFor arguments asked = AsksBy (subcommand_of chipbench arguments) asked
