-- Runs in which the timers tick at any speed.
-- Source: chosen by this project.
--     run_ticking      the state after t steps, if the timers tick in the given steps
--     AvoidsAtAnySpeed no key script makes the machine meet the target at a step up to n, whenever the
--                      timers tick
--     NeverAtAnySpeed  `AvoidsAtAnySpeed` at each step below the end
use Rattle.std.specs.Prelude.{◌≡◌, ℕ, zero, suc, ◌<◌, ◌≤◌, Bool, None}
use Rattle.chip_machine.specs.State.{State}
use Rattle.chip_machine.specs.Step.{step_of}
use Rattle.chip_explore.specs.Scripts.{IsScript}
use Rattle.chip_explore.specs.Target.{met_in}
use Rattle.chip_explore.specs.declared.limits.TheConstants.{END}
use Rattle.chip_explore.specs.declared.target.Target.{Target}

-- step t uses the keys held at t, and the timers tick in it if `ticking t` is true
abbrev pub run_ticking : (ticking : ℕ → Bool) → (held : ℕ → ℕ) → State → ℕ → State
run_ticking ticking held start zero = start
run_ticking ticking held start (suc t) =
    step_of (run_ticking ticking held start t) (held t) (ticking t)

-- at every rate, whichever steps tick
abbrev pub AvoidsAtAnySpeed : (allowed : ℕ) → Target → State → ℕ → Type 0
AvoidsAtAnySpeed allowed target start n =
    (ticking : ℕ → Bool) (held : ℕ → ℕ) → IsScript allowed held →
    (t : ℕ) → t ≤ n → met_in target (run_ticking ticking held start t) ≡ None

abbrev pub NeverAtAnySpeed : (allowed : ℕ) → Target → State → Type 0
NeverAtAnySpeed allowed target start =
    (n : ℕ) → n < END → AvoidsAtAnySpeed allowed target start n
