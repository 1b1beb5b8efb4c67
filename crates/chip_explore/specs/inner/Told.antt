-- The start of a search, and its answers.
-- Source: chosen by this project.
--     Begins          a machine that has drawn no random byte yet and doesn't meet the target
--     Covers          no key script makes the machine meet the target at a step up to n, or execute a
--                     step at an address other than the given ones
--     Says            the meaning of an outcome and of the addresses at which steps were executed
--     Tells           the meaning of the answer of a single search, without a deep search after it
--     later_of        the meaning of an outcome after another search covered the steps up to n
use Rattle.std.specs.Prelude.{◌≡◌, ℕ, ◌+◌, ◌-◌, ◌<◌, ◌≤◌, Bool, true, false, None, List}
use Rattle.chip_machine.specs.State.{State}
use Rattle.chip_explore.specs.Answers.{Answers, AreExecuted, EndsBy, IsFirst, most_ways}
use Rattle.chip_explore.specs.Executed.{StaysAmong}
use Rattle.chip_explore.specs.Scripts.{Avoids}
use Rattle.chip_explore.specs.Speeds.{NeverAtAnySpeed}
use Rattle.chip_explore.specs.Target.{met_in}
use Rattle.chip_explore.specs.declared.question.Bounds.{Bounds}
use Rattle.chip_explore.specs.declared.question.Explored.{Explored}
use Rattle.chip_explore.specs.declared.question.Outcome.{Outcome}
use Rattle.chip_explore.specs.declared.question.Outcome.TheVariants.{Found, Later, Within}
use Rattle.chip_explore.specs.declared.setting.Setting.{Setting}

pub record Begins (p : Setting) (start : State) : Type 0 where
  pub rate : 0 < p.rate
  pub fresh : start.core.draws ≡ 0
  pub going : met_in p.target start ≡ None

pub record Covers (p : Setting) (addresses : List Bool) (start : State) (n : ℕ) : Type 0 where
  pub avoids : Avoids p.rate p.allowed p.target start n
  pub stays : StaysAmong p.rate p.allowed addresses start n

pub record Says (p : Setting) (b : Bounds) (addresses : List Bool) (start : State) (outcome : Outcome) : Type 0 where
  pub answers : Answers p.rate p.allowed p.target start outcome
  pub executed : AreExecuted p.rate p.allowed addresses start outcome
  pub first : b.is_deep ≡ false → IsFirst outcome
  pub ends : EndsBy (b.steps - 1) outcome

pub record Tells (p : Setting) (b : Bounds) (start : State) (found : Explored) : Type 0 where
  pub says : Says p b found.executed start found.outcome
  pub few : found.states ≤ b.states + most_ways
  pub any_speed : found.is_at_any_speed ≡ true → NeverAtAnySpeed p.allowed p.target start

abbrev pub later_of : (covered : ℕ) → Outcome → Outcome
later_of covered (Found events step met) = Later events step met covered
later_of covered (Later events step met n) = Later events step met covered
later_of covered outcome = Within covered
