-- Answers for several properties, and what they imply for each of them.
-- Source: chosen by this project.
--     IsOneOf         a target that has only one of the properties of another target, the one at a
--                     place, and is otherwise equal to that target
--     told_of         the answer for the property at a place that an answer for all properties implies,
--                     if any: if another property was found, this one is avoided up to the step before
--     AnswersOne      the law: the implied answer is an answer for the one property alone
--     NeverOne        the law: if no property is ever met at any speed, this one isn't met either
use Rattle.std.specs.Prelude.{◌≡◌, ℕ, suc, zero, ◌∷◌, [], ◌==◌, Bool, false, Option, Some, None, IfSome, slice_get, if◌then◌else◌}
use Rattle.chip_machine.specs.State.{State}
use Rattle.chip_explore.specs.Answers.{Answers}
use Rattle.chip_explore.specs.Speeds.{NeverAtAnySpeed}
use Rattle.chip_explore.specs.declared.property.Property.{Property}
use Rattle.chip_explore.specs.declared.question.Outcome.{Outcome}
use Rattle.chip_explore.specs.declared.question.Outcome.TheVariants.{Found, Later, Within, Never}
use Rattle.chip_explore.specs.declared.target.Met.{Met}
use Rattle.chip_explore.specs.declared.target.Met.TheVariants as met
use Rattle.chip_explore.specs.declared.target.Target.{Target}

pub record IsOneOf (k : ℕ) (one all : Target) : Type 0 where
  pub causes : one.causes ≡ all.causes
  pub address : one.address ≡ all.address
  pub property : Property
  pub there : slice_get all.properties.now k ≡ Some property
  pub alone : one.properties.now ≡ property ∷ []

abbrev pub is_of : ℕ → Met → Bool
is_of k (met.Property j) = j == k
is_of k other = false

-- the answer that the target is avoided up to the step before a step
abbrev pub before : (step : ℕ) → Option Outcome
before zero = None
before (suc step) = Some (Within step)

abbrev pub told_of : ℕ → Outcome → Option Outcome
told_of k (Found events step m) =
    if is_of k m then Some (Found events step (met.Property 0)) else before step
told_of k (Later events step m covered) =
    if is_of k m then Some (Later events step (met.Property 0) covered)
    else Some (Within covered)
told_of k (Within n) = Some (Within n)
told_of k Never = Some Never

abbrev pub AnswersOne : Type 0
AnswersOne =
    (rate allowed k : ℕ) (one all : Target) (start : State) (outcome : Outcome) →
    IsOneOf k one all → Answers rate allowed all start outcome →
    IfSome (told_of k outcome) (λ told. Answers rate allowed one start told)

abbrev pub NeverOne : Type 0
NeverOne =
    (allowed k : ℕ) (one all : Target) (start : State) →
    IsOneOf k one all → NeverAtAnySpeed allowed all start → NeverAtAnySpeed allowed one start
