-- The commands that the program builds, and the values that are found for their arguments (chosen by this project).
use Rattle.std.specs.Prelude.{◌≡◌, ◌⊎◌, ℕ, List, [], ◌∷◌, codes, false, true}
use Rattle.std.specs.List.{Contains}
use Rattle.clap.specs.Words.{App, Row, Rule, app_of, fault_of, found_of, is_simple_and_free, new_app, rows_of, subcommand_of, with_rule}
use Rattle.chip_arguments.specs.CommandLine as line
use Rattle.chip_arguments.specs.declared.arguments.Argument.{Argument}
use Rattle.chip_arguments.specs.declared.arguments.Argument.TheVariants as argument
use Rattle.chip_arguments.specs.declared.commands.CommandRow.{CommandRow}
use Rattle.clap.specs.declared.builder.command.Command.{Command}
use Rattle.clap.specs.declared.parser.matches.ArgMatches.{ArgMatches}
use Rattle.clap.specs.declared.builder.command.Command.TheViews.{out-Command as fields_of}

-- the names of the program's commands
abbrev pub command_names : List (List ℕ)
command_names =
    codes "debug" ∷ codes "asm" ∷ codes "list" ∷ codes "syms" ∷ codes "dis" ∷ codes "run"
    ∷ codes "trace" ∷ codes "picture" ∷ codes "check" ∷ codes "test" ∷ codes "explore"
    ∷ codes "prove" ∷ codes "explain" ∷ codes "licences" ∷ []

-- the values that `clap` found for the arguments of a command
abbrev pub rows_in : ArgMatches → List Row
rows_in found = rows_of (found_of found)

-- whether a name is one of the known names
abbrev pub IsOneOf : List ℕ → List (List ℕ) → Type 0
IsOneOf name [] = ⊥
IsOneOf name (known ∷ others) = (name ≡ known) ⊎ IsOneOf name others

-- a command that `clap` sees as `app`, without global arguments, which its subcommands would have too
pub record Makes (app : App) (command : Command) : Type 0 where
  pub shape : app_of command ≡ app
  pub local : (fields_of command).has_globals ≡ false

-- the rule of an argument in the table of commands
abbrev pub rule_by : Argument → Rule
rule_by argument.Source = line.source
rule_by argument.NeededSource = line.needed_source
rule_by argument.Output = line.output
rule_by argument.Image = line.image
rule_by argument.Steps = line.steps
rule_by argument.Keys = line.keys
rule_by argument.From = line.from
rule_by argument.Hash = line.hash
rule_by argument.Against = line.against
rule_by argument.Ascii = line.ascii
rule_by argument.Pbm = line.pbm
rule_by argument.Png = line.png
rule_by argument.Scale = line.scale
rule_by argument.Code = line.code
rule_by argument.Files = line.files
rule_by argument.Update = line.update
rule_by argument.Tap = line.tap
rule_by argument.Rate = line.rate
rule_by argument.Tape = line.tape
rule_by argument.Seed = line.seed
rule_by argument.Profile = line.profile
rule_by argument.Quirks = line.quirks
rule_by argument.Every = line.every
rule_by argument.AsImage = line.as_image
rule_by argument.SearchSteps = line.search_steps
rule_by argument.States = line.states
rule_by argument.Memory = line.memory
rule_by argument.Deep = line.deep
rule_by argument.AnySpeed = line.any_speed
rule_by argument.Want = line.want
rule_by argument.Never = line.never
rule_by argument.Always = line.always
rule_by argument.AllowedKeys = line.allowed_keys
rule_by argument.KeysTo = line.keys_to
rule_by argument.KeysToPath = line.keys_to
rule_by argument.Only = line.only
rule_by argument.Seconds = line.seconds
rule_by argument.Sources = line.sources
rule_by argument.Color = line.color
rule_by argument.Json = line.json
rule_by argument.Allow = line.allow
rule_by argument.Reach = line.reach
rule_by argument.Cover = line.cover
rule_by argument.CheckCover = line.cover
rule_by argument.NoFacts = line.no_facts
rule_by argument.Progress = line.progress
rule_by argument.Hex = line.hex
rule_by argument.Quiet = line.quiet

-- a command with these arguments, in order
abbrev pub with_arguments : App → List Argument → App
with_arguments app [] = app
with_arguments app (next ∷ rest) = with_arguments (with_rule app (rule_by next)) rest

-- the command of a row of the table
abbrev pub app_of_row : CommandRow → App
app_of_row row = with_arguments (new_app row.name.now) row.arguments.now

-- a row with that name, from these rows
pub record IsRowOf (rows : List CommandRow) (name : List ℕ) (row : CommandRow) : Type 0 where
  pub place : Contains rows row
  pub named : row.name.now ≡ name

-- a program that parses these arguments in the same way as the program with all commands
pub record JudgesAsAll (arguments : List (List ℕ)) (app : App) : Type 0 where
  pub exact : is_simple_and_free app ≡ true
  pub fault : fault_of app arguments ≡ fault_of line.chipbench arguments
  pub command : subcommand_of app arguments ≡ subcommand_of line.chipbench arguments
