use Rattle.std.proofs.Common.{◌≡◌, ◌∙◌, refl, sym, [], ◌∷◌, List, ℕ, None, ap, false, map, subst, slice_get}
use Rattle.std.proofs.lemmas.Result.{err_from_is_err_and}
use Rattle.clap.specs.Kinds.{Kinds}
use Rattle.clap.specs.Words.{FailsBy, found_of, rows_of}
use Rattle.chip_arguments.specs.CommandArguments.{AsksFor, argument_faults}
use Rattle.chip_arguments.specs.SettingArguments.{default_arguments}
use Rattle.chip_arguments.specs.declared.command_line.CommandLine.TheVariants.{Debug}
use Rattle.chip_arguments.proofs.CommandExamples.{no_arguments, no_arguments_no_command}
use Rattle.chip_arguments.proofs.NameLemmas.{command_is}
use Rattle.chip_arguments.proofs.OneCommand.{judged_at}
use Rattle.chip_arguments.proofs.WordLemmas.{asked_for, asked_none, fails_by_clap, judged, subcommand_named, subcommand_none, without_command}
use Rattle.chip_arguments.proofs.command_line.parse_arguments.Goals as goal

pub returns-in_err-matches-clause-fault : goal.returns-in_err-matches-clause-fault
returns-in_err-matches-clause-fault g c =
    let arguments = map g.S.AsStr.text c.args.arguments.now in
    let judges = judged_at g.S.AsStr.text c.args.arguments.now c.in-Some.first.now c.in-Some.ensures.value c.as_str.ensures c.in_ok-chipbench_for.ensures in
    let kinds = c.in_err-matches.ensures.kinds judges.exact in
    let given = err_from_is_err_and c.from_residual-in_err-matches.result c.from_residual-in_err-matches.ensures.1 in
    fails_by_clap arguments c.from_residual-in_err-matches.result given.0 given.1
    (subst (λ (kinds : Kinds). FailsBy kinds c.from_residual-in_err-matches.result) judges.fault (rw (given.1, given.2) kinds))

nothing_first : {T : Type 0} (arguments : List T) → None ≡ slice_get arguments 0 → arguments ≡ []
nothing_first [] e = refl
nothing_first (x ∷ xs) e = cc

pub returns-in_default-clause-fault : goal.returns-in_default-clause-fault
returns-in_default-clause-fault g c =
    let none = ap (map g.S.AsStr.text) (nothing_first c.args.arguments.now c.in_default.ensures.value) in
    subst (λ (arguments : List (List ℕ)). argument_faults arguments ≡ []) (sym none) (without_command [] no_arguments no_arguments_no_command)

pub returns-in_default-clause-asked : goal.returns-in_default-clause-asked
returns-in_default-clause-asked g c =
    let none = ap (map g.S.AsStr.text) (nothing_first c.args.arguments.now c.in_default.ensures.value) in
    subst (λ (arguments : List (List ℕ)). AsksFor arguments (Debug None false false default_arguments)) (sym none) (asked_none [] no_arguments_no_command)

pub command_asked-requires : goal.command_asked-requires
command_asked-requires g c =
    let arguments = map g.S.AsStr.text c.args.arguments.now in
    let judges = judged_at g.S.AsStr.text c.args.arguments.now c.in-Some.first.now c.in-Some.ensures.value c.as_str.ensures c.in_ok-chipbench_for.ensures in
    let named = subcommand_named arguments c.in_ok-matches.matches c.in-Some-subcommand.name.now (rows_of (found_of c.in-Some-subcommand.found.now)) judges
    c.in_ok-matches.ensures.matches c.in-Some-subcommand.ensures.name c.in-Some-subcommand.ensures.rows in
    command_is arguments _ _ (sym judges.fault ∙ c.in_ok-matches.ensures.kinds judges.exact) named

pub returns-in-Some-subcommand-clause-fault : goal.returns-in-Some-subcommand-clause-fault
returns-in-Some-subcommand-clause-fault g c =
    let arguments = map g.S.AsStr.text c.args.arguments.now in
    let judges = judged_at g.S.AsStr.text c.args.arguments.now c.in-Some.first.now c.in-Some.ensures.value c.as_str.ensures c.in_ok-chipbench_for.ensures in
    let named = subcommand_named arguments c.in_ok-matches.matches c.in-Some-subcommand.name.now (rows_of (found_of c.in-Some-subcommand.found.now)) judges
    c.in_ok-matches.ensures.matches c.in-Some-subcommand.ensures.name c.in-Some-subcommand.ensures.rows in
    judged arguments _ _ c.command_asked.result (sym judges.fault ∙ c.in_ok-matches.ensures.kinds judges.exact) named c.command_asked.ensures.fault

pub returns-in-Some-subcommand-clause-asked : goal.returns-in-Some-subcommand-clause-asked
returns-in-Some-subcommand-clause-asked g c =
    let arguments = map g.S.AsStr.text c.args.arguments.now in
    let judges = judged_at g.S.AsStr.text c.args.arguments.now c.in-Some.first.now c.in-Some.ensures.value c.as_str.ensures c.in_ok-chipbench_for.ensures in
    let named = subcommand_named arguments c.in_ok-matches.matches c.in-Some-subcommand.name.now (rows_of (found_of c.in-Some-subcommand.found.now)) judges
    c.in_ok-matches.ensures.matches c.in-Some-subcommand.ensures.name c.in-Some-subcommand.ensures.rows in
    asked_for arguments _ _ c.command_asked.result named c.command_asked.ensures.asked

pub returns-clause-fault : goal.returns-clause-fault
returns-clause-fault g c =
    let arguments = map g.S.AsStr.text c.args.arguments.now in
    let judges = judged_at g.S.AsStr.text c.args.arguments.now c.in-Some.first.now c.in-Some.ensures.value c.as_str.ensures c.in_ok-chipbench_for.ensures in
    without_command arguments (sym judges.fault ∙ c.in_ok-matches.ensures.kinds judges.exact)
    (subcommand_none arguments c.in_ok-matches.matches judges c.in_ok-matches.ensures.matches c.in-None.ensures.rows)

pub returns-clause-asked : goal.returns-clause-asked
returns-clause-asked g c =
    let arguments = map g.S.AsStr.text c.args.arguments.now in
    let judges = judged_at g.S.AsStr.text c.args.arguments.now c.in-Some.first.now c.in-Some.ensures.value c.as_str.ensures c.in_ok-chipbench_for.ensures in
    asked_none arguments (subcommand_none arguments c.in_ok-matches.matches judges c.in_ok-matches.ensures.matches c.in-None.ensures.rows)
