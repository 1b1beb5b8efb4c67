-- Which keys the next step can distinguish.
-- Source: chosen by this project.
--     IsWithin         a mask contains only allowed keys
--     IsChoice         a mask contains no key, or exactly one key of `some`
--     Represents       for each mask of allowed keys, some choice of `some` has the same effect in
--                      the next step
use Rattle.std.specs.Prelude.{◌≡◌, ℕ, ◌^◌, ◌⊎◌, Bool, true, bit_and}
use Rattle.chip_machine.specs.State.{State}
use Rattle.chip_machine.specs.Step.{is_key_down, step_of}

abbrev pub IsWithin : ℕ → ℕ → Type 0
IsWithin allowed keys = bit_and keys allowed ≡ keys

abbrev pub IsChoice : ℕ → ℕ → Type 0
IsChoice some keys = (keys ≡ 0) ⊎ ((k : ℕ) × (is_key_down some k ≡ true) × (keys ≡ 2 ^ k))

abbrev pub Represents : ℕ → ℕ → State → Type 0
Represents allowed some s =
    (keys : ℕ) → IsWithin allowed keys →
    (one : ℕ) × IsChoice some one × ((tick : Bool) → step_of s keys tick ≡ step_of s one tick)
