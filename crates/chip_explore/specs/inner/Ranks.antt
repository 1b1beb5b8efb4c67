-- Ranks of the kept states. The ranks show that the goals can be reached from each state.
--     IsAtGoals       a state that hasn't stopped and meets the goals, and in which all used values are known
--     Falls           a state is like a kept state of a smaller rank
--     Climbs          from a state at a step, with some parts forgotten, at most `most` steps, each with
--                     some allowed keys, lead to the goals or to a kept state of a smaller rank; they need
--                     nothing that is forgotten, and read no value of a delay timer that is a bound
--     IsRanked        a kept state climbs in this way, with its own rank
--     IsOpen          a state whose step tells no values of the delay timer apart
--     IsWay           the facts about the state in which a sequence of steps with no keys down ends
use Rattle.std.specs.Prelude.{◌≡◌, ℕ, zero, suc, ◌+◌, ◌-◌, ◌^◌, ◌<◌, ◌≤◌, ◌⊎◌, List, None, false, true, is_some, slice_index}
use Rattle.chip_machine.specs.Choices.{IsWithin}
use Rattle.chip_machine.specs.Forgotten.{IsUnneeded, IsForgottenAfter}
use Rattle.chip_machine.specs.State.{State}
use Rattle.chip_machine.specs.Step.{step_of}
use Rattle.chip_explore.specs.declared.climb.Way.{Way}
use Rattle.chip_explore.specs.declared.climb.Way.TheVariants.{AtGoals, Joined, Lost}
use Rattle.chip_explore.specs.declared.limits.TheConstants.{MOST_QUIET_STEPS}
use Rattle.chip_explore.specs.declared.setting.Setting.{Setting}
use Rattle.chip_explore.specs.inner.Cover.{forgotten_at, meets_goals, tick_at, IsAt, View}
use Rattle.chip_explore.specs.inner.Delays.{timed_register}
use Rattle.chip_explore.specs.inner.Known.{are_known}

abbrev pub rank_at : List ℕ → ℕ → ℕ
rank_at ranks place = slice_index ranks place

pub record IsAtGoals (p : Setting) (forgotten : ℕ) (s : State) : Type 0 where
  pub going : is_some s.core.stopped ≡ false
  pub known : are_known p forgotten s ≡ true
  pub met : meets_goals p s ≡ true

pub record Falls (p : Setting) (v : View) (ranks : List ℕ) (rank forgotten : ℕ) (s : State) (t : ℕ) : Type 0 where
  pub place : ℕ
  pub at : IsAt p v place forgotten s t
  pub less : rank_at ranks place < rank

abbrev pub Arrives : Setting → View → (ranks : List ℕ) → (rank forgotten : ℕ) → State → ℕ → Type 0
Arrives p v ranks rank forgotten s t = IsAtGoals p forgotten s ⊎ Falls p v ranks rank forgotten s t

pub record IsOpen (p : Setting) (s : State) : Type 0 where
  pub untimed : timed_register p s ≡ None
  pub drawn : s.core.draws < 2 ^ 64 - 1

abbrev pub ClimbsFor : Setting → View → (ranks : List ℕ) → (rank moves forgotten : ℕ) → State → ℕ → Type 0
ClimbsFor p v ranks rank zero forgotten s t = Arrives p v ranks rank forgotten s t
ClimbsFor p v ranks rank (suc k) forgotten s t =
    IsOpen p s × IsUnneeded forgotten s
    × ((keys : ℕ) × IsWithin p.allowed keys
    × ((after : ℕ) × IsForgottenAfter forgotten s (step_of s keys (tick_at p t)).core.pc after
    × ClimbsFor p v ranks rank k after (step_of s keys (tick_at p t)) (t + 1)))

pub record Climbs (p : Setting) (v : View) (ranks : List ℕ) (rank most forgotten : ℕ) (s : State) (t : ℕ) : Type 0 where
  pub moves : ℕ
  pub few : moves ≤ most
  pub path : ClimbsFor p v ranks rank moves forgotten s t

pub record IsRanked (p : Setting) (v : View) (ranks : List ℕ) (place : ℕ) : Type 0 where
  pub small : rank_at ranks place < 2 ^ 32
  pub climbs : Climbs p v ranks (rank_at ranks place) (MOST_QUIET_STEPS + 1) (forgotten_at v place)
      (v.member place) (slice_index v.steps place)

abbrev pub IsWay : Setting → (forgotten : ℕ) → State → Way → Type 0
IsWay p forgotten s AtGoals = IsAtGoals p forgotten s
IsWay p forgotten s Joined = Unit {0}
IsWay p forgotten s Lost = Unit {0}
