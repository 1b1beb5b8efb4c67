-- The frame law: a step neither depends on the bytes that it doesn't touch nor changes them.
-- Source: chosen by this project.
use Rattle.std.specs.Prelude.{◌≡◌, ℕ, Bool, List, All, IsFalse, IsTrue, slice_index}
use Rattle.chip_machine.specs.State.{State, IsProper}
use Rattle.chip_machine.specs.Step.{step_of, touches}

-- two memories have the same bytes outside a set of addresses
abbrev pub SameOff : (ℕ → Bool) → List ℕ → List ℕ → Type 0
SameOff set m n = (at : ℕ) → IsFalse (set at) → slice_index m at ≡ slice_index n at

-- two memories have the same bytes inside a set of addresses
abbrev pub SameOn : (ℕ → Bool) → List ℕ → List ℕ → Type 0
SameOn set m n = (at : ℕ) → IsTrue (set at) → slice_index m at ≡ slice_index n at

-- two states are the same except for the bytes at a set of addresses
pub record DifferOnlyAt (set : ℕ → Bool) (a b : State) : Type 0 where
  pub core : a.core ≡ b.core
  pub memory : SameOff set a.memory b.memory

-- none of these addresses is in the set
abbrev pub Misses : (ℕ → Bool) → List ℕ → Type 0
Misses set addresses = All (λ at. IsFalse (set at)) addresses

-- the results of the same step from two states, if the step touches no address in the set
pub record IsFramed (set : ℕ → Bool) (keys : ℕ) (tick : Bool) (a b : State) : Type 0 where
  pub same_touches : touches b ≡ touches a
  pub still_agree : DifferOnlyAt set (step_of a keys tick) (step_of b keys tick)
  pub first_keeps : SameOn set (step_of a keys tick).memory a.memory
  pub second_keeps : SameOn set (step_of b keys tick).memory b.memory

-- the law
abbrev pub FrameLaw : Type 0
FrameLaw =
    (set : ℕ → Bool) (keys : ℕ) (tick : Bool) (a b : State) →
    IsProper a → IsProper b → DifferOnlyAt set a b → Misses set (touches a) → IsFramed set keys tick a b

-- a step preserves that a state is proper
abbrev pub StepKeepsProper : Type 0
StepKeepsProper = (s : State) (keys : ℕ) (tick : Bool) → IsProper s → IsProper (step_of s keys tick)

-- a step doesn't change the quirks
abbrev pub StepKeepsQuirks : Type 0
StepKeepsQuirks =
    (s : State) (keys : ℕ) (tick : Bool) → (step_of s keys tick).core.quirks ≡ s.core.quirks
