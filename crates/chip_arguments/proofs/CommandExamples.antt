-- Worked examples: command lines with the kinds of fault that `clap` finds in them.
use Rattle.std.proofs.Common.{◌≡◌, [], ◌∷◌, codes, true, refl, Some, None, option_map, List, Bool, ◌++◌, false, map}
use Rattle.clap.specs.Words.{all_of, fault_of, first_of, is_simple_and_free, subcommand_of, one_of}
use Rattle.std.specs.List.{list_all}
use Rattle.clap.specs.Simple.{Shape, built}
use Rattle.chip_arguments.specs.inner.Built.{command_names}
use Rattle.clap.specs.declared.error.kind.ErrorKind.TheVariants as kind
use Rattle.clap.proofs.OnLiterals.{clap_on_literals}
use Rattle.std.specs.Prelude.{⊤}
use Rattle.chip_arguments.specs.CommandLine.{asm, check, chipbench, debug, dis, explain, explore, licences, list, picture, prove, run, syms, test, trace, with_search, with_settings, with_steps}
use Rattle.chip_arguments.proofs.ArgumentRules.{argument_rules}

-- the definitions to unfold to parse literal arguments
unfoldable pub chipbench_on_literals : ⊤
unfolding clap_on_literals argument_rules asm check chipbench debug dis explain explore licences list picture prove run syms test trace with_search with_settings with_steps
chipbench_on_literals = tt

pub is_exact : is_simple_and_free chipbench ≡ true
unfolding chipbench_on_literals
is_exact = refl

pub no_arguments : fault_of chipbench [] ≡ []
unfolding chipbench_on_literals
no_arguments = refl

steps_are_needed : fault_of chipbench (codes "run" ∷ codes "a" ∷ []) ≡ kind.MissingRequiredArgument ∷ []
unfolding chipbench_on_literals
steps_are_needed = refl

rate_is_positive : fault_of chipbench (codes "debug" ∷ codes "--rate" ∷ codes "0" ∷ []) ≡ kind.ValueValidation ∷ []
unfolding chipbench_on_literals
rate_is_positive = refl

options_want_a_command : fault_of chipbench (codes "--rate" ∷ codes "5" ∷ []) ≡ kind.UnknownArgument ∷ []
unfolding chipbench_on_literals
options_want_a_command = refl

shows_help : fault_of chipbench (codes "--help" ∷ []) ≡ kind.DisplayHelp ∷ []
unfolding chipbench_on_literals
shows_help = refl

default_rate : option_map (λ p. one_of (codes "rate") p.1) (subcommand_of chipbench (codes "debug" ∷ [])) ≡ Some (Some (codes "10"))
unfolding chipbench_on_literals
default_rate = refl

pub no_arguments_no_command : subcommand_of chipbench [] ≡ None
unfolding chipbench_on_literals
no_arguments_no_command = refl

every_is_for_debug : fault_of chipbench (codes "run" ∷ codes "a" ∷ codes "--steps" ∷ codes "1" ∷ codes "--every" ∷ codes "1000" ∷ []) ≡ kind.UnknownArgument ∷ []
unfolding chipbench_on_literals
every_is_for_debug = refl

names_a_profile : option_map (λ p. first_of (codes "profile") p.1) (subcommand_of chipbench (codes "debug" ∷ codes "--profile" ∷ codes "vip" ∷ [])) ≡ Some (Some (codes "vip"))
unfolding chipbench_on_literals
names_a_profile = refl

trace_takes_its_own : fault_of chipbench (codes "trace" ∷ codes "a" ∷ codes "--steps" ∷ codes "9" ∷ codes "--hash" ∷ codes "--from" ∷ codes "5" ∷ []) ≡ []
unfolding chipbench_on_literals
trace_takes_its_own = refl

run_prints_no_sums : fault_of chipbench (codes "run" ∷ codes "a" ∷ codes "--steps" ∷ codes "1" ∷ codes "--hash" ∷ []) ≡ kind.UnknownArgument ∷ []
unfolding chipbench_on_literals
run_prints_no_sums = refl

first_step : option_map (λ p. first_of (codes "from") p.1) (subcommand_of chipbench (codes "trace" ∷ codes "a" ∷ codes "--steps" ∷ codes "9" ∷ [])) ≡ Some (Some (codes "0"))
unfolding chipbench_on_literals
first_step = refl

scale_is_at_most_sixteen : fault_of chipbench (codes "picture" ∷ codes "a" ∷ codes "--steps" ∷ codes "1" ∷ codes "--png" ∷ codes "b" ∷ codes "--scale" ∷ codes "17" ∷ []) ≡ kind.ValueValidation ∷ []
unfolding chipbench_on_literals
scale_is_at_most_sixteen = refl

test_takes_files : fault_of chipbench (codes "test" ∷ codes "a" ∷ codes "--tap" ∷ codes "b" ∷ codes "--update" ∷ []) ≡ []
unfolding chipbench_on_literals
test_takes_files = refl

test_wants_a_file : fault_of chipbench (codes "test" ∷ codes "--tap" ∷ []) ≡ kind.MissingRequiredArgument ∷ []
unfolding chipbench_on_literals
test_wants_a_file = refl

takes_each_file : option_map (λ p. all_of (codes "files") p.1) (subcommand_of chipbench (codes "test" ∷ codes "a" ∷ codes "--tap" ∷ codes "b" ∷ []))
    ≡ Some (Some (codes "a" ∷ codes "b" ∷ []))
unfolding chipbench_on_literals
takes_each_file = refl

checks_each_source : option_map (λ p. all_of (codes "sources") p.1) (subcommand_of chipbench (codes "check" ∷ codes "a" ∷ codes "--json" ∷ codes "-" ∷ []))
    ≡ Some (Some (codes "a" ∷ codes "-" ∷ []))
unfolding chipbench_on_literals
checks_each_source = refl

check_wants_a_source : fault_of chipbench (codes "check" ∷ codes "--json" ∷ []) ≡ kind.MissingRequiredArgument ∷ []
unfolding chipbench_on_literals
check_wants_a_source = refl

syms_takes_hex : fault_of chipbench (codes "syms" ∷ codes "a" ∷ codes "--hex" ∷ []) ≡ []
unfolding chipbench_on_literals
syms_takes_hex = refl

takes_colors : fault_of chipbench (codes "check" ∷ codes "a" ∷ codes "--color" ∷ codes "never" ∷ []) ≡ []
unfolding chipbench_on_literals
takes_colors = refl

usual_states : option_map (λ p. first_of (codes "states") p.1) (subcommand_of chipbench (codes "explore" ∷ codes "--image" ∷ codes "a" ∷ [])) ≡ Some (Some (codes "1000000"))
unfolding chipbench_on_literals
usual_states = refl

pub names_built : map (λ (s : Shape). s.name) (built chipbench).subs ≡ command_names ++ codes "help" ∷ []
unfolding chipbench_on_literals
names_built = refl

abbrev pub has_none : {T : Type 0} → List T → Bool
has_none [] = true
has_none (x ∷ xs) = false

pub no_aliases : list_all (λ (s : Shape). has_none s.aliases) (built chipbench).subs ≡ true
unfolding chipbench_on_literals
no_aliases = refl

pub takes_help : (built chipbench).top.disable_help_subcommand ≡ false
unfolding chipbench_on_literals
takes_help = refl
