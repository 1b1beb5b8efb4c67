-- The possible results of each instruction from a state, given what is known about the state.
use Rattle.std.specs.Prelude.{◌≡◌, ℕ, ◌+◌, Any, List, if◌then◌else◌}
use Rattle.chip_machine.specs.State.{Core, State}
use Rattle.chip_machine.specs.Sprite.{sprite_bytes}
use Rattle.chip_machine.specs.Step.{Effect, draws_nothing, has_wide_sixteen, perform}
use Rattle.chip_facts.specs.inner.Knowing.{IsKnown}
use Rattle.chip_facts.specs.inner.Steps.{IsAround, IsNext, Meets}
use Rattle.chip_facts.specs.declared.known.Known.{Known}
use Rattle.chip_facts.specs.declared.transfer.Before.{Before}
use Rattle.chip_facts.specs.declared.outcome.Successor.{Successor}
use Rattle.chip_facts.specs.declared.outcome.Outcome.{Outcome}

-- a state fits what is known
pub record IsAt (before : Before) (s : State) : Type 0 where
  pub pc : s.core.pc ≡ before.pc
  pub frames_are : s.core.frames ≡ before.frames.now
  pub known : IsKnown before.known s.core
  pub around : IsAround before.memory.now before.quirks s

-- an outcome allows everything that an effect does
abbrev pub Gives : Before → Outcome → (Core → Effect) → Type 0
Gives before out effect =
    (s : State) → IsAt before s → (keys : ℕ) → Meets before.frames.now out s (perform keys s (effect s.core))

-- a change of the core leads to one of these successors
abbrev pub Leads : Before → List Successor → (Core → Core) → Type 0
Leads before next change =
    (s : State) → IsAt before s → Any (IsNext before.frames.now (change s.core)) next

-- the parts of a core that a change of the core doesn't affect
pub record IsCalm (old new : Core) : Type 0 where
  pub same_flags : new.flags ≡ old.flags
  pub tape_is : new.tape ≡ old.tape
  pub quirks_are : new.quirks ≡ old.quirks
  pub stop_is : new.stopped ≡ old.stopped

-- a step moves pc to the next instruction, and `known` is true of the core after it
pub record GoesOn (known : Known) (old new : Core) : Type 0 where
  pub pc_is : new.pc ≡ old.pc + 2
  pub frames_stay : new.frames ≡ old.frames
  pub then_known : IsKnown known new

-- `GoesOn` for a step that changes only the core
pub record IsOn (known : Known) (old new : Core) : Type 0 where
  pub pc_is : new.pc ≡ old.pc + 2
  pub frames_stay : new.frames ≡ old.frames
  pub calm : IsCalm old new
  pub then_known : IsKnown known new

-- the number of bytes of a sprite of n rows, which is 0 if nothing is drawn
abbrev pub drawn_bytes : ℕ → Core → ℕ
drawn_bytes n c = if draws_nothing n c then 0 else sprite_bytes (has_wide_sixteen c) n
