-- If the first word names a command, the program with only that command parses the arguments in the same way
-- as the whole program. Both walks stop at the first word and enter the same command.
use Rattle.std.proofs.Common.{◌≡◌, ◌∙◌, Bool, false, true, List, [], ◌∷◌, Option, Some, codes, get_or, map, option_map, is_some, slice_get, refl, sym, ap, ap₂, subst}
use Rattle.std.proofs.lemmas.List.{get_or-map}
use Rattle.std.specs.List.{Contains, find}
use Rattle.std.specs.Option.{option_map_or}
use Rattle.clap.proofs.FaultLemmas.{stopped_fault}
use Rattle.clap.proofs.WalkLemmas.{walk_stopped}
use Rattle.clap.specs.Faults.{built_fault, level_fault, other_fault, walk_fault}
use Rattle.clap.specs.Kinds.{Kinds, or_else}
use Rattle.clap.specs.Simple.{App, Shape, built, entered, label_of, names_of, rows_at}
use Rattle.clap.specs.Walk.{Row, Text, Walk, answers_to, idle, nothing_held, subcommand_met, walk, walk_from, walked}
use Rattle.clap.specs.Words.{AddsSubcommand, app_of, is_simple_and_free, new_app, with_subcommand}
use Rattle.chip_arguments.specs.CommandLine.{chipbench, with_version, without_name}
use Rattle.chip_arguments.specs.declared.commands.CommandRow.{CommandRow}
use Rattle.chip_arguments.specs.inner.Built.{IsRowOf, JudgesAsAll, Makes, app_of_row}
use Rattle.clap.specs.declared.builder.command.Command.{Command}
use Rattle.chip_arguments.proofs.CommandExamples.{is_exact}

-- the command that a word enters, and the name at which a walk stops there
abbrev command_of : App → Text → Option Shape
command_of a word = find (λ s. answers_to word (label_of s)) a.subs

abbrev name_met : App → Text → Option Text
name_met a word = subcommand_met (names_of a) idle word

module _ (word : Text) (rest : List Text) where
  -- the faults, given the settings of the program and the command that is entered
  abbrev fault_by : Shape → Option Shape → Kinds
  fault_by top command =
      or_else (or_else (or_else (other_fault top (Some word) word nothing_held) []) [])
      (level_fault top [] nothing_held [] (is_some (option_map {U = Text × List Row} (λ s. rows_at s rest) command))
      (option_map_or (λ s. level_fault s [] nothing_held rest false []) command []))

  module _ (a : App) (met : name_met a word ≡ Some word) where
    stops : ◌≡◌ {A = Walk} (walk a.top.rules (names_of a) nothing_held (word ∷ rest)) (record (walk_from nothing_held) { stopped = Some (word, rest) })
    unfolding walked
    stops = rw met (sym (walk_stopped a.top.rules (names_of a) (walk_from nothing_held) word [] rest))

    fault_is : built_fault a nothing_held (word ∷ rest) ≡ fault_by a.top (command_of a word)
    unfolding walk_fault walked
    fault_is = rw (stops, met, stopped_fault a.top (names_of a) (walk_from nothing_held) (word, []) rest) refl

    entered_is : entered a (walk a.top.rules (names_of a) nothing_held (word ∷ rest)).stopped ≡ option_map (λ s. rows_at s rest) (command_of a word)
    entered_is = ap (λ (w : Walk). entered a w.stopped) stops

-- the program with only the command of a row
abbrev pub with_one : CommandRow → App
with_one row = with_subcommand (without_name (with_version (new_app (codes "chipbench")))) (app_of_row row).top

-- the results for a row's name in that program and in the whole program, and the required results
abbrev Facts : Type 0
Facts = Bool × Shape × Option Shape × Option Text × Option Text

abbrev pub found : CommandRow → Facts
found row =
    let one = built (with_one row) in
    (is_simple_and_free (with_one row), one.top, command_of one row.name.now, name_met one row.name.now, name_met (built chipbench) row.name.now)

abbrev pub wanted : CommandRow → Facts
wanted row = (true, (built chipbench).top, command_of (built chipbench) row.name.now, Some row.name.now, Some row.name.now)

row_found : (rows : List CommandRow) (row : CommandRow) → Contains rows row → map found rows ≡ map wanted rows → found row ≡ wanted row
row_found rows row (i, within, at) each =
    subst (λ r. found r ≡ wanted r) at
    (sym (get_or-map found rows i row (found row) within) ∙ ap (λ facts. get_or facts i (found row)) each ∙ get_or-map wanted rows i row (found row) within)

judges : (row : CommandRow) (rest : List Text) → found row ≡ wanted row → JudgesAsAll (row.name.now ∷ rest) (with_one row)
unfolding chipbench
judges row rest same =
    let word = row.name.now in
    let one = built (with_one row) in
    let all = built chipbench in
    let command : command_of one word ≡ command_of all word = ap (λ (f : Facts). f.2) same in
    let met_one : name_met one word ≡ Some word = ap (λ (f : Facts). f.3) same in
    let met_all : name_met all word ≡ Some word = ap (λ (f : Facts). f.4) same in
    record {
      exact = ap (λ (f : Facts). f.0) same;
      fault = fault_is word rest one met_one ∙ ap₂ (fault_by word rest) (ap (λ (f : Facts). f.1) same) command
          ∙ sym (fault_is word rest all met_all);
      command = entered_is word rest one met_one ∙ ap (option_map (λ s. rows_at s rest)) command
          ∙ sym (entered_is word rest all met_all);
    }

-- adding the command of a row to the program without commands
pub judged_alone : {rows : List CommandRow} {word : Text} {row : CommandRow} {old sub new : Command} → IsRowOf rows word row
    → app_of old ≡ without_name (with_version (new_app (codes "chipbench"))) → Makes (app_of_row row) sub → map found rows ≡ map wanted rows
    → AddsSubcommand old sub new → (rest : List Text) → JudgesAsAll (word ∷ rest) (app_of new)
judged_alone {rows} {word} {row} {old} {sub} {new} is alone made each adds rest =
    let shape : app_of new ≡ with_one row = adds.shape made.local ∙ ap₂ (λ (a b : App). with_subcommand a b.top) alone made.shape in
    let named : row.name.now ∷ rest ≡ word ∷ rest = ap (λ (w : Text). w ∷ rest) is.named in
    subst (λ arguments. JudgesAsAll arguments (app_of new)) named (subst (JudgesAsAll (row.name.now ∷ rest)) (sym shape) (judges row rest (row_found rows row is.place each)))

pub judged_by_all : (word : Text) (command : Command) → app_of command ≡ chipbench → (rest : List Text) → JudgesAsAll (word ∷ rest) (app_of command)
judged_by_all word command is rest = subst (JudgesAsAll (word ∷ rest)) (sym is) (record { exact = is_exact; fault = refl; command = refl })

-- arguments that begin with that word are parsed in the same way
pub judged_at : {T : Type 0} {word : Text} {app : App} (text : T → Text) (arguments : List T) (first : T) → Some first ≡ slice_get arguments 0 → word ≡ text first
    → ((rest : List Text) → JudgesAsAll (word ∷ rest) app) → JudgesAsAll (map text arguments) app
judged_at text [] first begins is judges = cc
judged_at {T} {word} {app} text (x ∷ xs) first begins is judges =
    let here : first ≡ x = cc in
    subst (λ (w : Text). JudgesAsAll (w ∷ map text xs) app) (is ∙ ap text here) (judges (map text xs))
