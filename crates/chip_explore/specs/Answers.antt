-- The meaning of each answer of a search.
-- Source: chosen by this project.
--     Meets           under the events, the machine meets the target at the step, as `met` states, and
--                     only allowed keys are down before that step
--     IsFound         `Meets`, and no key script makes the machine meet the target at an earlier step
--     IsFirst         the answer isn't `Later`, so the target can't be met before a step that it reports
--     EndsBy          the answer contains no step past the last one that was asked for: neither the step
--                     at which a script meets the target nor the step up to which no script does; only
--                     `Never` is about all steps
--     most_ways       the number of ways in which a search makes the next step of a state: with no key
--                     down, and with each of the sixteen keys alone
--     Answers         found; later: the target is met, and avoided up to another step; within n:
--                     avoided up to step n; never: avoided up to each step below the end
--     AreExecuted     the addresses that a search saw executed are complete: no key script makes the
--                     machine execute a step at another address, before the step at which the target was
--                     found; up to the step up to which it is avoided; at any step below the end
use Rattle.std.specs.Prelude.{◌≡◌, ℕ, ◌<◌, ◌≤◌, Some, Bool, List}
use Rattle.chip_machine.specs.Choices.{IsWithin}
use Rattle.chip_machine.specs.State.{State}
use Rattle.chip_machine.specs.Step.{step_of}
use Rattle.chip_replay.specs.Keys.{held}
use Rattle.chip_replay.specs.Run.{run}
use Rattle.chip_explore.specs.Executed.{StaysAmong}
use Rattle.chip_explore.specs.Scripts.{Avoids, keys_of}
use Rattle.chip_explore.specs.Target.{met_in}
use Rattle.chip_explore.specs.declared.limits.TheConstants.{END}
use Rattle.chip_explore.specs.declared.script.KeyEvent.{KeyEvent}
use Rattle.chip_explore.specs.declared.question.Outcome.{Outcome}
use Rattle.chip_explore.specs.declared.question.Outcome.TheVariants.{Found, Later, Within, Never}
use Rattle.chip_explore.specs.declared.target.Met.{Met}
use Rattle.chip_explore.specs.declared.target.Target.{Target}

pub record Meets (rate allowed : ℕ) (target : Target) (start : State) (events : List KeyEvent) (step : ℕ) (met : Met) : Type 0 where
  pub meets : met_in target (run step_of rate (held (keys_of events)) start step) ≡ Some met
  pub allowed_only : (t : ℕ) → t < step → IsWithin allowed (held (keys_of events) t)

pub record IsFound (rate allowed : ℕ) (target : Target) (start : State) (events : List KeyEvent) (step : ℕ) (met : Met) : Type 0 where
  pub script : Meets rate allowed target start events step met
  pub first : (n : ℕ) → n < step → Avoids rate allowed target start n

abbrev pub IsFirst : Outcome → Type 0
IsFirst (Later events step met covered) = ⊥
IsFirst outcome = Unit {0}

abbrev pub EndsBy : (last : ℕ) → Outcome → Type 0
EndsBy last (Found events step met) = step ≤ last
EndsBy last (Later events step met covered) = step ≤ last × covered ≤ last
EndsBy last (Within n) = n ≤ last
EndsBy last Never = Unit {0}

abbrev pub most_ways : ℕ
most_ways = 17

abbrev pub Answers : (rate allowed : ℕ) → Target → State → Outcome → Type 0
Answers rate allowed target start (Found events step met) =
    IsFound rate allowed target start events.items step met
Answers rate allowed target start (Later events step met covered) =
    Meets rate allowed target start events.items step met × Avoids rate allowed target start covered
Answers rate allowed target start (Within n) = Avoids rate allowed target start n
Answers rate allowed target start Never = (n : ℕ) → n < END → Avoids rate allowed target start n

abbrev pub AreExecuted : (rate allowed : ℕ) → (addresses : List Bool) → State → Outcome → Type 0
AreExecuted rate allowed addresses start (Found events step met) =
    (n : ℕ) → n < step → StaysAmong rate allowed addresses start n
AreExecuted rate allowed addresses start (Later events step met covered) =
    StaysAmong rate allowed addresses start covered
AreExecuted rate allowed addresses start (Within n) = StaysAmong rate allowed addresses start n
AreExecuted rate allowed addresses start Never =
    (n : ℕ) → n < END → StaysAmong rate allowed addresses start n
