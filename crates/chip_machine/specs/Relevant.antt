-- The parts of a state that later steps depend on, if some of its parts are forgotten.
-- Source: chosen by this project.
--     Alike            two states agree in everything except the sound timer, the number of times
--                      that the tape was used up, and some forgotten parts and bytes. If the states
--                      have stopped, they never change again, so they may also differ in every part
--                      that can be forgotten and in every byte
--     AreNear          two values of I are equal, or both point at digits
--     AlikeSteps       the law: alike states are alike after the same step, except for what is forgotten
--                      after it. The step must need nothing that is forgotten, and the counts of random
--                      bytes used must be below their maximum
--     DrawsGrow        the law: a step uses at most one random byte
--     QuietTick        the law: if the delay timer is 0 after a step without a tick, a tick changes
--                      nothing in that step except the sound timer
use Rattle.std.specs.Prelude.{◌≡◌, ℕ, ◌+◌, ◌-◌, ◌%◌, ◌^◌, ◌<◌, ◌≤◌, ◌⊎◌, Bool, true, false, [], length, is_some, slice_index}
use Rattle.std.specs.FinSet as set
use Rattle.chip_machine.specs.declared.limits.TheConstants.{DIGITS_END}
use Rattle.chip_machine.specs.Forgotten.{has_byte, has_part, index_part, far_part, screen_part, register_part, IsUnneeded, IsForgottenAfter}
use Rattle.chip_machine.specs.State.{Core, State, IsProper}
use Rattle.chip_machine.specs.Step.{reg, step_of}

-- everything except the parts that may be forgotten, the sound timer and the random bytes used
abbrev pub others : Core → Core
others c = record c { registers = []; index = 0; lit = set.empty; sound = 0; draws = 0 }

abbrev pub AreNear : ℕ → ℕ → Type 0
AreNear i j = (i ≡ j) ⊎ ((i < DIGITS_END) × (j < DIGITS_END))

pub record Alike (forgotten : ℕ) (a b : State) : Type 0 where
  pub proper : IsProper a
  pub others : others a.core ≡ others b.core
  pub size : length a.memory ≡ length b.memory
  pub draws : a.core.draws % length a.core.tape ≡ b.core.draws % length b.core.tape
  pub count : length a.core.registers ≡ length b.core.registers
  pub registers : is_some a.core.stopped ≡ false → (x : ℕ)
      → has_part forgotten (register_part x) ≡ false → reg a.core x ≡ reg b.core x
  pub index : is_some a.core.stopped ≡ false → has_part forgotten index_part ≡ false
      → a.core.index ≡ b.core.index
  pub near : is_some a.core.stopped ≡ false → has_part forgotten far_part ≡ false
      → AreNear a.core.index b.core.index
  pub screen : is_some a.core.stopped ≡ false → has_part forgotten screen_part ≡ false
      → a.core.lit ≡ b.core.lit
  pub memory : is_some a.core.stopped ≡ false → (at : ℕ)
      → has_byte forgotten at ≡ false → slice_index a.memory at ≡ slice_index b.memory at

abbrev pub AlikeSteps : Type 0
AlikeSteps =
    (before after : ℕ) (a b : State) (keys : ℕ) (tick : Bool) → Alike before a b
    → IsUnneeded before a → IsForgottenAfter before a (step_of a keys tick).core.pc after
    → a.core.draws < 2 ^ 64 - 1 → b.core.draws < 2 ^ 64 - 1
    → Alike after (step_of a keys tick) (step_of b keys tick)

abbrev pub DrawsGrow : Type 0
DrawsGrow =
    (s : State) (keys : ℕ) (tick : Bool) → (step_of s keys tick).core.draws ≤ s.core.draws + 1

abbrev pub QuietTick : Type 0
QuietTick =
    (s : State) (keys : ℕ) → IsProper s → (step_of s keys false).core.delay ≡ 0
    → Alike 0 (step_of s keys true) (step_of s keys false)
