-- A run of a machine, step by step.
-- Source: COSMAC VIP manual for timers that count down in step with the display; this project chose
-- to measure the rate in steps.
--     run            the state after t steps
--     IsStill        every step leaves the state unchanged
--     first_below    the first step below f that passes a test, or f if no step passes
use Rattle.std.specs.Prelude.{◌≡◌, ℕ, zero, suc, Bool}
use Rattle.chip_machine.specs.Block.{ticks}
use Rattle.std.specs.List.{position_or_len, range_with_len}

module _ {S : Type 0} (after : S → ℕ → Bool → S) (rate : ℕ) (held : ℕ → ℕ) where
  -- the start state after t steps; step s uses the keys held at s
  abbrev pub run : S → ℕ → S
  run start zero = start
  run start (suc t) = after (run start t) (held t) (ticks rate t)

-- every step leaves the state unchanged, whichever keys are down
abbrev pub IsStill : {S : Type 0} → (S → ℕ → Bool → S) → S → Type 0
IsStill after s = (keys : ℕ) (tick : Bool) → after s keys tick ≡ s

-- the first of the steps 0, 1, .. below f that passes, or f if no step passes
unfoldable pub first_below : (ℕ → Bool) → ℕ → ℕ
first_below p f = position_or_len p (range_with_len 0 f)
