-- Why no state meets a target that facts exclude.
use Rattle.std.proofs.Common.{◌≡◌, ℕ, ◌<◌, Bool, true, false, List, [], ◌∷◌, length, get_or, Any, Contains, Option, Some, None, IfSome, option_map, refl, sym, ap, subst, arith, ◌∙◌}
use Rattle.std.specs.Prelude.{if◌then◌else◌, nat_lt, position}
use Rattle.std.specs.List.{position_or_len}
use Rattle.std.proofs.lemmas.Bool.{le-ltb}
use Rattle.std.proofs.lemmas.List.Sums.{position_or_len_is}
use Rattle.chip_explore.specs.Causes.{is_wanted}
use Rattle.chip_explore.specs.Property.{is_met}
use Rattle.chip_explore.specs.Target.{is_address, met_by, met_in}
use Rattle.chip_explore.specs.declared.target.Met.{Met}
use Rattle.chip_explore.specs.declared.target.Met.TheVariants as met
use Rattle.chip_explore.specs.declared.target.Target.{Target}
use Rattle.chip_facts.specs.Facts.{is_among}
use Rattle.chip_facts.specs.Reached.{IsReached}
use Rattle.chip_facts.specs.Rows.{HoldFacts, IsInRow}
use Rattle.chip_facts.specs.declared.facts.Facts.{Facts}
use Rattle.chip_machine.specs.State.{State}
use Rattle.chip_machine.specs.declared.quirks.Quirks.{Quirks}
use Rattle.chip_machine.specs.declared.stop.Stop.{Stop}

-- if no element passes, there is no first element that passes
pub no_position : {X : Type 0} (p : X → Bool) (xs : List X) → ((k : ℕ) (d : X) → k < length xs → p (get_or xs k d) ≡ false) → position p xs ≡ None
no_position p [] none = refl
no_position p (x ∷ xs) none =
    let n : ℕ = length (x ∷ xs) in
    let at : position_or_len p (x ∷ xs) ≡ n = position_or_len_is p (x ∷ xs) n x (omega arith) (λ k below. none k x below) (λ past. absurd (omega (arith, past))) in
    ap (λ place. if nat_lt place n then Some place else None) at ∙ ap (λ test. if test then Some n else None) (le-ltb n n (omega arith))

module _ (image : List ℕ) (quirks : Quirks) (facts : Facts) (target : Target)
    (away : (pc : ℕ) → is_among facts.executed.items pc ≡ true → is_address target.address pc ≡ false)
    (unwanted : (pc : ℕ) (why : Stop) → Contains facts.left.items (record { pc = pc; stop = why }) → is_wanted target.causes why ≡ false)
    (unmet : (s : State) → Any (λ row. IsInRow facts row s) facts.rows.items → position (is_met s) target.properties.now ≡ None)
    (holds : HoldFacts image quirks facts) (s : State) (reached : IsReached image quirks s) where
  unmet_by : (stopped : Option Stop) → s.core.stopped ≡ stopped → IfSome stopped (λ why. Contains facts.left.items (record { pc = s.core.pc; stop = why }))
      → met_by target s stopped ≡ None
  unmet_by (Some cause) is there =
      subst (λ b. ◌≡◌ {A = Option Met} (if b then Some (met.Cause cause) else None) None) (sym (unwanted s.core.pc cause there)) refl
  unmet_by None runs there =
      subst (λ b. (if b then Some met.Address else option_map met.Property (position (is_met s) target.properties.now)) ≡ None)
      (sym (away s.core.pc (holds.are s reached).place))
      (ap (option_map met.Property) (unmet s (holds.rows s reached runs)))

  pub never_met : met_in target s ≡ None
  never_met = unmet_by s.core.stopped refl (holds.are s reached).stop
