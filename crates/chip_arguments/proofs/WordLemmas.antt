-- What the values of a command ask for, derived from what `clap` reads in them.
use Rattle.std.proofs.Common.{◌≡◌, inl, inr, ℕ, Bool, Bor, map, true, false, List, [], ◌∷◌, codes, Option, Some, None, Result, Ok, Err, IfOk, option_map, unwrap_or, refl, sym, ◌∙◌, ap, ap₂, subst}
use Rattle.clap.proofs.WalkLemmas.{both, first_value-rows, one_text-rows}
use Rattle.clap.specs.Kinds.{FailsBy, HasKind, IsAmong, Kinds, or_else}
use Rattle.std.specs.Box.{box_value}
use Rattle.clap.specs.Words.{App, HasMatchesOf, Row, fault_of, first_of, first_value, found_of, is_simple, kind_of, one_of, one_text, rows_of, subcommand_name_of, subcommand_of}
use Rattle.clap.specs.Simple.{subcommand_rows_of}
use Rattle.clap.specs.declared.parser.matches.ArgMatches.{ArgMatches}
use Rattle.clap.specs.declared.parser.matches.ArgMatches.TheViews.{out-ArgMatches, out-SubCommand}
use Rattle.clap.specs.declared.error.Error.{Error}
use Rattle.clap.specs.declared.error.kind.ErrorKind.{ErrorKind}
use Rattle.clap.specs.declared.parser.matches.Found.{Found}
use Rattle.chip_arguments.specs.CommandLine.{chipbench}
use Rattle.chip_arguments.specs.CommandArguments.{Asks, AsksBy, AsksFlag, AsksFor, faults_below, value_faults, argument_faults}
use Rattle.chip_arguments.specs.SettingArguments.{default_arguments}
use Rattle.chip_arguments.specs.inner.Built.{JudgesAsAll}
use Rattle.chip_arguments.specs.declared.command_line.CommandLine.{CommandLine}
use Rattle.chip_arguments.specs.declared.command_line.CommandLine.TheVariants as line

pub first_is : (found : Found) (id : List ℕ) (text : Option (List ℕ)) → text ≡ first_value found id → text ≡ first_of id (rows_of found)
first_is found id text e = e ∙ first_value-rows found id

-- a flag that is read
pub flag_is : (found : Found) (id : List ℕ) (is_set : Bool) → (one_text found id ≡ Some (codes "true") → is_set ≡ true) →
    (one_text found id ≡ Some (codes "false") → is_set ≡ false) → (one_text found id ≡ None → is_set ≡ false) →
    AsksFlag (one_of id (rows_of found)) is_set
flag_is found id is_set set unset none =
    subst (λ (text : Option (List ℕ)). AsksFlag text is_set) (one_text-rows found id)
    (record { set = set; unset = unset; none = none })

still_among : (k : ErrorKind) (kinds next : Kinds) → IsAmong k kinds → IsAmong k (or_else kinds next)
still_among k [] next h = absurd h
still_among k (x ∷ kinds) next h = h

pub still_fails : (kinds next : Kinds) (e : Error) → HasKind kinds e → HasKind (or_else kinds next) e
still_fails kinds next e (inl m) = inl m
still_fails kinds next e (inr h) = inr (still_among (kind_of e) kinds next h)

module _ {T : Type 0} where
  -- arguments that `clap` rejects are rejected
  pub fails_by_clap : (arguments : List (List ℕ)) (result : Result T Error) (e : Error) → result ≡ Err e →
      FailsBy (fault_of chipbench arguments) result → FailsBy (argument_faults arguments) result
  unfolding argument_faults
  fails_by_clap arguments (Ok x) e h f = cc
  fails_by_clap arguments (Err x) e h f = still_fails (fault_of chipbench arguments) (faults_below (subcommand_of chipbench arguments)) x f

-- if `clap` accepts arguments, their faults are those of their values
judged_by : (arguments : List (List ℕ)) (command : Option (List ℕ × List Row)) → fault_of chipbench arguments ≡ [] →
    subcommand_of chipbench arguments ≡ command → argument_faults arguments ≡ faults_below command
unfolding argument_faults
judged_by arguments command none named =
    ap (λ (kinds : Kinds). or_else kinds (faults_below (subcommand_of chipbench arguments))) none
    ∙ ap (λ (c : Option (List ℕ × List Row)). faults_below c) named

pub judged : {T : Type 0} (arguments : List (List ℕ)) (name : List ℕ) (rows : List Row) (result : Result T Error) →
    fault_of chipbench arguments ≡ [] → subcommand_of chipbench arguments ≡ Some (name, rows) →
    FailsBy (value_faults rows) result → FailsBy (argument_faults arguments) result
judged arguments name rows result none named f =
    subst (λ (kinds : Kinds). FailsBy kinds result) (sym (judged_by arguments (Some (name, rows)) none named)) f

pub without_command : (arguments : List (List ℕ)) → fault_of chipbench arguments ≡ [] → subcommand_of chipbench arguments ≡ None → argument_faults arguments ≡ []
without_command arguments none named = judged_by arguments None none named

asked_by : (arguments : List (List ℕ)) (command : Option (List ℕ × List Row)) (line : CommandLine) →
    subcommand_of chipbench arguments ≡ command → AsksBy command line → AsksFor arguments line
unfolding AsksFor
asked_by arguments command line named asks = subst (λ (c : Option (List ℕ × List Row)). AsksBy c line) (sym named) asks

pub asked_none : (arguments : List (List ℕ)) → subcommand_of chipbench arguments ≡ None → AsksFor arguments (line.Debug None false false default_arguments)
asked_none arguments named = asked_by arguments None _ named refl

pub asked_for : {E : Type 0} (arguments : List (List ℕ)) (name : List ℕ) (rows : List Row) (result : Result CommandLine E) →
    subcommand_of chipbench arguments ≡ Some (name, rows) → IfOk result (Asks name rows) → IfOk result (AsksFor arguments)
asked_for arguments name rows (Ok line) named asks = asked_by arguments (Some (name, rows)) line named asks
asked_for arguments name rows (Err e) named asks = tt

-- the command that the matches name, and its values
pub named_in : {X : Type 0} (o : Option X) (f : X → List ℕ) (g : X → List Row) (name : List ℕ) (rows : List Row) →
    Some name ≡ option_map f o → Some rows ≡ option_map (λ (p : List ℕ × List Row). p.1) (option_map {U = List ℕ × List Row} (λ x. (f x, g x)) o) →
    option_map {U = List ℕ × List Row} (λ x. (f x, g x)) o ≡ Some (name, rows)
named_in None f g name rows e h = cc
named_in (Some x) f g name rows e h = ap Some (ap₂ (λ (a : List ℕ) (b : List Row). (a, b)) (sym (some_same e)) (sym (some_same h)))
  where
    some_same : {A : Type 0} {a b : A} → Some a ≡ Some b → a ≡ b
    some_same e = cc

pub none_named : {X : Type 0} (o : Option X) (f : X → List ℕ) (g : X → List Row) →
    None ≡ option_map (λ (p : List ℕ × List Row). p.1) (option_map {U = List ℕ × List Row} (λ x. (f x, g x)) o) → option_map {U = List ℕ × List Row} (λ x. (f x, g x)) o ≡ None
none_named None f g h = refl
none_named (Some x) f g h = cc

-- the command that arguments name, given the matches that `clap` returns for a program that names
-- the same command
pub subcommand_named : {app : App} (arguments : List (List ℕ)) (m : ArgMatches) (name : List ℕ) (rows : List Row) → JudgesAsAll arguments app →
    HasMatchesOf app arguments m → Some name ≡ subcommand_name_of m →
    Some rows ≡ option_map (λ (p : List ℕ × List Row). p.1) (subcommand_rows_of m) → subcommand_of chipbench arguments ≡ Some (name, rows)
subcommand_named {app} arguments m name rows judges has n r =
    sym judges.command ∙ sym ((has (both (is_simple app) _ judges.exact).0).1)
    ∙ named_in (out-ArgMatches m).subcommand (λ b. (out-SubCommand (box_value b)).name.now) (λ b. rows_of (found_of (out-SubCommand (box_value b)).matches)) name rows n r

pub subcommand_none : {app : App} (arguments : List (List ℕ)) (m : ArgMatches) → JudgesAsAll arguments app → HasMatchesOf app arguments m →
    None ≡ option_map (λ (p : List ℕ × List Row). p.1) (subcommand_rows_of m) → subcommand_of chipbench arguments ≡ None
subcommand_none {app} arguments m judges has r =
    sym judges.command ∙ sym ((has (both (is_simple app) _ judges.exact).0).1)
    ∙ none_named (out-ArgMatches m).subcommand (λ b. (out-SubCommand (box_value b)).name.now) (λ b. rows_of (found_of (out-SubCommand (box_value b)).matches)) r

-- the texts of an argument; an empty list means that the argument is missing
pub texts_are : (found : Option (Bor (List (Bor (List ℕ))))) (none : Bor (List (Bor (List ℕ)))) (texts : Option (List (List ℕ))) → none.now ≡ [] →
    option_map (λ s. map (λ v. v.now) s.now) found ≡ texts → map (λ v. v.now) (unwrap_or found none).now ≡ unwrap_or texts []
texts_are None none texts nothing is = ap (map (λ v. v.now)) nothing ∙ ap (λ (t : Option (List (List ℕ))). unwrap_or t []) is
texts_are (Some given) none texts nothing is = ap (λ (t : Option (List (List ℕ))). unwrap_or t []) is
