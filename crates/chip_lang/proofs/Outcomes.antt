-- Outcomes, and the values that follow from them.
use Rattle.std.proofs.Common.{◌≡◌, Result, Ok, Err, refl}
use Rattle.chip_lang.specs.declared.fault.Fault.{Fault}
use Rattle.chip_lang.specs.Value.{◌>>=◌}

-- an outcome has a value, and another value follows from it
pub record Comes {A B : Type 0} (r : Result A Fault) (go : A → Result B Fault) (v : B) : Type 0 where
  pub first : A
  pub had : r ≡ Ok first
  pub then : go first ≡ Ok v

pub first-value : {A B : Type 0} (r : Result A Fault) (go : A → Result B Fault) (v : B) → (r >>= go) ≡ Ok v → Comes r go v
first-value (Ok x) go v h = record { first = x; had = refl; then = h }
first-value (Err f) go v h = cc
