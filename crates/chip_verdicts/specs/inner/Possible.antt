-- Possible values and results, for a state that is one of several states.
--     IsPossible      a test may have this result
--     IsWithin        a number is within bounds
--     IsSeen          a state is one of the states of a view
--     is_as_wanted    whether the condition of a property has the wanted result, to hold or to fail
use Rattle.std.specs.Prelude.{◌≡◌, ℕ, ◌≤◌, Bool, true, IfSome, length, not, if◌then◌else◌}
use Rattle.chip_machine.specs.State.{State}
use Rattle.chip_explore.specs.Property.{holds_in, value_in}
use Rattle.chip_explore.specs.declared.property.Property.{Property}
use Rattle.chip_facts.specs.Rows.{IsInRow}
use Rattle.chip_verdicts.specs.declared.bounds.Bounds.{Bounds}
use Rattle.chip_verdicts.specs.declared.possible.Possible.{Possible}
use Rattle.chip_verdicts.specs.declared.view.View.{View}

abbrev pub IsPossible : Possible → Bool → Type 0
IsPossible possible test = (if test then possible.may_hold else possible.may_fail) ≡ true

pub record IsWithin (bounds : Bounds) (number : ℕ) : Type 0 where
  pub least : bounds.least ≤ number
  pub most : number ≤ bounds.most

pub record IsSeen (view : View) (s : State) : Type 0 where
  pub in_row : IsInRow view.facts.now view.row.now s
  pub depth : length s.core.frames ≡ view.depth
  pub fixed : IfSome view.fixed (λ fixed. value_in s fixed.item ≡ fixed.value)

abbrev pub is_as_wanted : State → Property → Bool
is_as_wanted s p = if p.wanted then holds_in s p.condition else not (holds_in s p.condition)
