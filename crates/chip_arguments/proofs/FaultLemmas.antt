-- The first fault of the values of several arguments, in order.
use Rattle.std.proofs.Common.{◌≡◌, ◌<◌, ◌+◌, ℕ, List, [], Option, Result, Bor, length, map, drop, get_or, Ok, Err, refl, sym, ◌∙◌, ap, subst, add-one, drop-cons}
use Rattle.std.proofs.lemmas.List.{get_or-map, length-map}
use Rattle.std.specs.Result.{IsErrAnd}
use Rattle.clap.specs.Kinds.{FailsBy, HasKind, Kinds, or_else}
use Rattle.clap.specs.Words.{Row, first_of}
use Rattle.clap.specs.declared.error.Error.{Error}
use Rattle.chip_arguments.specs.CommandArguments.{first_value_fault}
use Rattle.chip_arguments.proofs.WordLemmas.{still_fails}

-- a fault that a `?` returns is the first one, whatever comes after it
pub stops : {T : Type 0} (first next : Kinds) (result : Result T Error) (e : Error) → IsErrAnd result (λ handed. handed ≡ e) → HasKind first e →
    FailsBy (or_else first next) result
stops first next (Ok x) e is has = absurd is
stops first next (Err y) e is has = rw is (still_fails first next e has)

-- if there is no fault, the next argument is checked
pub after : {T : Type 0} (first next : Kinds) (result : Result T Error) → first ≡ [] → FailsBy next result → FailsBy (or_else first next) result
after first next result none fails = rw none fails

module _ (fault : Option (List ℕ) → Kinds) (arguments : List (Bor (List ℕ) × Bor (List ℕ))) (rows : List Row) where
  abbrev ids : List (List ℕ)
  ids = map (λ argument. argument.0.now) arguments

  -- the first fault of the arguments from an index on
  abbrev first_from : ℕ → Kinds
  first_from i = first_value_fault fault (drop i ids) rows

  step : (i : ℕ) (nothing : Bor (List ℕ) × Bor (List ℕ)) → i < length arguments →
      first_from i ≡ or_else (fault (first_of (get_or arguments i nothing).0.now rows)) (first_from (i + 1))
  step i nothing within =
      let here : get_or ids i [] ≡ (get_or arguments i nothing).0.now = get_or-map (λ argument. argument.0.now) arguments i nothing [] within in
      let within_ids : i < length ids = rw length-map within in
      rw (add-one, drop-cons ids i [] within_ids, here) refl

  -- a value without a fault doesn't change the first fault of the others
  pub goes_on : (i : ℕ) (nothing : Bor (List ℕ) × Bor (List ℕ)) → i < length arguments → fault (first_of (get_or arguments i nothing).0.now rows) ≡ [] →
      first_from i ≡ first_value_fault fault ids rows → first_from (i + 1) ≡ first_value_fault fault ids rows
  goes_on i nothing within none same =
      ap (λ (kinds : Kinds). or_else kinds (first_from (i + 1))) (sym none) ∙ sym (step i nothing within) ∙ same

  -- the fault of a value, which a `?` returns, is the first fault of all values
  pub fails_here : {T : Type 0} (result : Result T Error) (i : ℕ) (nothing : Bor (List ℕ) × Bor (List ℕ)) (e : Error) → IsErrAnd result (λ handed. handed ≡ e) →
      i < length arguments → HasKind (fault (first_of (get_or arguments i nothing).0.now rows)) e →
      first_from i ≡ first_value_fault fault ids rows → FailsBy (first_value_fault fault ids rows) result
  fails_here result i nothing e is within has same =
      subst (λ (kinds : Kinds). FailsBy kinds result) (sym (step i nothing within) ∙ same) (stops _ (first_from (i + 1)) result e is has)
