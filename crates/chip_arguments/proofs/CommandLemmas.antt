-- The results of the loops over the table of commands.
use Rattle.std.proofs.Common.{◌≡◌, ◌<◌, ◌+◌, ◌||◌, ◌∙◌, ℕ, List, length, drop, get_or, map, refl, sym, ap, ap₂, false, Result, Ok, Err, IfOk, add-one, drop-cons}
use Rattle.clap.specs.Words.{AddsArg, AddsSubcommand, App, app_of, new_app, rule_of, with_rule, with_subcommand}
use Rattle.clap.specs.declared.builder.arg.Arg.{Arg}
use Rattle.clap.specs.declared.builder.command.Command.{Command}
use Rattle.clap.specs.declared.builder.command.Command.TheViews.{out-Command as fields_of}
use Rattle.chip_arguments.specs.CommandLine.{with_commands}
use Rattle.chip_arguments.specs.declared.arguments.Argument.{Argument}
use Rattle.chip_arguments.specs.declared.commands.CommandRow.{CommandRow}
use Rattle.chip_arguments.specs.inner.Built.{Makes, app_of_row, rule_by, with_arguments}

-- the arguments from an index on complete the command of the row
pub record IsBuilding (row : CommandRow) (place : ℕ) (command : Command) : Type 0 where
  pub shape : with_arguments (app_of command) (drop place row.arguments.now) ≡ app_of_row row
  pub local : (fields_of command).has_globals ≡ false

arguments_step : (app : App) (arguments : List Argument) (i : ℕ) (nothing : Argument) → i < length arguments →
    with_arguments app (drop i arguments) ≡ with_arguments (with_rule app (rule_by (get_or arguments i nothing))) (drop (i + 1) arguments)
arguments_step app arguments i nothing within = rw (add-one, drop-cons arguments i nothing within) refl

pub with_argument : {row : CommandRow} {old new : Command} (arg : Arg) (i : ℕ) (nothing : Argument) → i < length row.arguments.now →
    IsBuilding row i old → rule_of arg ≡ rule_by (get_or row.arguments.now i nothing) → arg.global ≡ false → AddsArg old arg new →
    IsBuilding row (i + 1) new
with_argument {row} {old} {new} arg i nothing within building rule_is local adds = record {
  shape =
      let shape : app_of new ≡ with_rule (app_of old) (rule_by (get_or row.arguments.now i nothing)) = adds.shape local ∙ ap (with_rule (app_of old)) rule_is in
      ap (λ (app : App). with_arguments app (drop (i + 1) row.arguments.now)) shape
      ∙ sym (arguments_step (app_of old) row.arguments.now i nothing within) ∙ building.shape;
  local = adds.globals ∙ ap₂ (◌||◌) building.local local;
}

-- before the first argument, and after the last one
pub begins : (row : CommandRow) (command : Command) → Makes (new_app row.name.now) command → IsBuilding row 0 command
begins row command made =
    record { shape = ap (λ (app : App). with_arguments app row.arguments.now) made.shape; local = made.local }

rows_step : (app : App) (rows : List CommandRow) (i : ℕ) (nothing : CommandRow) → i < length rows →
    with_commands app (map app_of_row (drop i rows))
    ≡ with_commands (with_subcommand app (app_of_row (get_or rows i nothing)).top) (map app_of_row (drop (i + 1) rows))
rows_step app rows i nothing within = rw (add-one, drop-cons rows i nothing within) refl

-- adding a command leaves the commands that follow it
pub with_row : {all : App} {old new sub : Command} (rows : List CommandRow) (i : ℕ) (nothing : CommandRow) → i < length rows →
    with_commands (app_of old) (map app_of_row (drop i rows)) ≡ all → Makes (app_of_row (get_or rows i nothing)) sub → AddsSubcommand old sub new →
    with_commands (app_of new) (map app_of_row (drop (i + 1) rows)) ≡ all
with_row {all} {old} {new} rows i nothing within same made adds =
    let below = app_of_row (get_or rows i nothing) in
    let shape : app_of new ≡ with_subcommand (app_of old) below.top = adds.shape made.local ∙ ap (λ (a : App). with_subcommand (app_of old) a.top) made.shape in
    ap (λ (app : App). with_commands app (map app_of_row (drop (i + 1) rows))) shape ∙ sym (rows_step (app_of old) rows i nothing within) ∙ same

-- the result of a function on a command, seen as an `App`
pub made_if_ok : {E : Type 0} {app : App} (makes : App → App) (old : Command) (result : Result Command E) → app_of old ≡ app
    → IfOk result (λ new. app_of new ≡ makes (app_of old)) → IfOk result (λ new. app_of new ≡ makes app)
made_if_ok makes old (Ok new) old_is made = made ∙ ap makes old_is
made_if_ok makes old (Err e) old_is made = tt
