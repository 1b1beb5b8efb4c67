-- Whether some goals can be reached from each state that a player can reach.
-- Source: chosen by this project.
--     are_met         whether a state meets each of some properties, even if the machine has stopped
--     Agree           two key scripts have the same keys in each step below t
--     StillCan        some key script that agrees with a given one below step t meets the goals, all at
--                     once, at step t or later
--     AlwaysCan       `StillCan` for each key script, at each step up to n: from each state that a player
--                     can reach, some way of playing leads to the goals
--     IsDeadEnd       under the events, only allowed keys are down before a step, and no key script that
--                     agrees with the events until then meets the goals from that step up to step n
--     Foresees        the meaning of each answer: always: up to each step below `FAR`; a dead end: up to
--                     each step below the end; within n: nothing
--     outcome_of      an answer, converted to the outcome of a search
use Rattle.std.specs.Prelude.{◌≡◌, ℕ, ◌+◌, ◌<◌, ◌≤◌, Bool, true, false, List}
use Rattle.std.specs.List.{list_all}
use Rattle.chip_machine.specs.Choices.{IsWithin}
use Rattle.chip_machine.specs.State.{State}
use Rattle.chip_machine.specs.Step.{step_of}
use Rattle.chip_replay.specs.Keys.{held}
use Rattle.chip_replay.specs.Run.{run}
use Rattle.chip_explore.specs.Property.{is_met}
use Rattle.chip_explore.specs.Scripts.{IsScript, keys_of}
use Rattle.chip_explore.specs.declared.limits.TheConstants.{END, FAR}
use Rattle.chip_explore.specs.declared.property.Property.{Property}
use Rattle.chip_explore.specs.declared.question.Outcome.{Outcome}
use Rattle.chip_explore.specs.declared.question.Outcome.TheVariants as outcome
use Rattle.chip_explore.specs.declared.target.Met.TheVariants as met
use Rattle.chip_explore.specs.declared.prospect.Prospect.{Prospect}
use Rattle.chip_explore.specs.declared.prospect.Prospect.TheVariants.{Always, DeadEnd, Within}
use Rattle.chip_explore.specs.declared.script.KeyEvent.{KeyEvent}

abbrev pub are_met : List Property → State → Bool
are_met goals s = list_all (is_met s) goals

abbrev pub Agree : ℕ → (ℕ → ℕ) → (ℕ → ℕ) → Type 0
Agree t one other = (u : ℕ) → u < t → one u ≡ other u

pub record StillCan (rate allowed : ℕ) (goals : List Property) (start : State) (keys : ℕ → ℕ) (t : ℕ) : Type 0 where
  pub later : ℕ → ℕ
  pub script : IsScript allowed later
  pub agree : Agree t later keys
  pub more : ℕ
  pub met : are_met goals (run step_of rate later start (t + more)) ≡ true

abbrev pub AlwaysCan : (rate allowed : ℕ) → List Property → State → ℕ → Type 0
AlwaysCan rate allowed goals start n =
    (keys : ℕ → ℕ) → IsScript allowed keys →
    (t : ℕ) → t ≤ n → StillCan rate allowed goals start keys t

pub record IsDeadEnd (rate allowed : ℕ) (goals : List Property) (start : State) (events : List KeyEvent) (step n : ℕ) : Type 0 where
  pub allowed_only : (t : ℕ) → t < step → IsWithin allowed (held (keys_of events) t)
  pub lost : (later : ℕ → ℕ) → IsScript allowed later → Agree step later (held (keys_of events))
      → (t : ℕ) → step ≤ t → t ≤ n → are_met goals (run step_of rate later start t) ≡ false

abbrev pub Foresees : (rate allowed : ℕ) → List Property → State → Prospect → Type 0
Foresees rate allowed goals start Always = (n : ℕ) → n < FAR → AlwaysCan rate allowed goals start n
Foresees rate allowed goals start (DeadEnd events step) =
    (n : ℕ) → n < END → IsDeadEnd rate allowed goals start events.items step n
Foresees rate allowed goals start (Within n) = Unit {0}

abbrev pub outcome_of : Prospect → Outcome
outcome_of Always = outcome.Never
outcome_of (DeadEnd events step) = outcome.Found events step (met.Property 0)
outcome_of (Within n) = outcome.Within n
