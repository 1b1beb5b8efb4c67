-- States whose delay timer is a bound, for a search in which the timers may tick after any step.
--     with_delay       a state with its delay timer set to a value
--     delay_register   the register that the next step sets to the delay timer, if any
--     timed_register   that register, if the ticks are free and the delay timer is above 0, so that
--                      the register may get one of several values
--     read_as          the state after that step if the delay timer had this value: the bound stays,
--                      except that a timer that has reached 0 stays at 0
--     AlikeTicks       a state of a search is like a state of a run except for the delay timer: if the
--                      ticks are free, it is at least the timer of the run; otherwise the timers are equal
use Rattle.std.specs.Prelude.{◌≡◌, ◌≤◌, ℕ, ◌==◌, ◌&&◌, not, false, is_some, Option, Some, None, if◌then◌else◌}
use Rattle.chip_lang.specs.declared.instr.Instr.{Instr}
use Rattle.chip_lang.specs.declared.instr.Instr.TheVariants as row
use Rattle.chip_machine.specs.Forgotten.{next_instr}
use Rattle.chip_machine.specs.Relevant.{Alike}
use Rattle.chip_machine.specs.State.{State}
use Rattle.chip_machine.specs.Step.{step_of}
use Rattle.chip_explore.specs.declared.setting.Setting.{Setting}

abbrev pub with_delay : ℕ → State → State
with_delay delay s = record s { core = record s.core { delay = delay } }

abbrev pub register_read : Option Instr → Option ℕ
register_read (Some (row.ReadDelay x)) = Some x
register_read instr = None

abbrev pub delay_register : State → Option ℕ
delay_register s = if is_some s.core.stopped then None else register_read (next_instr s)

abbrev pub timed_register : Setting → State → Option ℕ
timed_register p s = if p.free && not (s.core.delay == 0) then delay_register s else None

abbrev pub bound_after : (value bound : ℕ) → ℕ
bound_after value bound = if value == 0 then 0 else bound

abbrev pub read_as : ℕ → State → State
read_as value s =
    with_delay (bound_after value s.core.delay) (step_of (with_delay value s) 0 false)

pub record AlikeTicks (p : Setting) (forgotten : ℕ) (a b : State) : Type 0 where
  pub delay : ℕ
  pub most : delay ≤ a.core.delay
  pub exact : p.free ≡ false → delay ≡ a.core.delay
  pub alike : Alike forgotten (with_delay delay a) b
