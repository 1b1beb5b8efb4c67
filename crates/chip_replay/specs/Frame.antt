-- The frame law of a machine with a memory: a step neither depends on the bytes that it doesn't touch
-- nor changes them.
-- Source: chosen by this project.
--     AgreeOff            two states are the same except for the bytes at a set of addresses
--     IsFramed            the results of the same step from two such states, if the step touches no
--                         address in the set
use Rattle.std.specs.Prelude.{◌≡◌, ℕ, Bool, List}
use Rattle.chip_machine.specs.Frame.{SameOff, SameOn}

-- b is the same as a except for the bytes at a set of addresses
pub record AgreeOff {M : Type 0} (memory : M → List ℕ) (with_memory : M → List ℕ → M)
    (set : ℕ → Bool) (a b : M) : Type 0 where
  pub rest : with_memory a (memory b) ≡ b
  pub bytes : SameOff set (memory a) (memory b)

-- the results of the same step from two such states
pub record IsFramed {M : Type 0} (memory : M → List ℕ) (with_memory : M → List ℕ → M) (step : M → M)
    (touches : M → List ℕ) (set : ℕ → Bool) (a b : M) : Type 0 where
  pub same_touches : touches b ≡ touches a
  pub still_agree : AgreeOff memory with_memory set (step a) (step b)
  pub first_keeps : SameOn set (memory (step a)) (memory a)
  pub second_keeps : SameOn set (memory (step b)) (memory b)
