-- The addresses at which a machine executes steps.
-- Source: chosen by this project.
--     is_among        whether an address is in a table; true for each address past the table
--     is_at_one       whether a machine has stopped or is at one of the addresses
--     StaysAmong      no key script makes the machine execute another address, at a step up to n
use Rattle.std.specs.Prelude.{◌≡◌, ℕ, ◌≤◌, ◌||◌, Bool, true, List, is_some, slice_index_or}
use Rattle.chip_machine.specs.State.{State}
use Rattle.chip_machine.specs.Step.{step_of}
use Rattle.chip_replay.specs.Run.{run}
use Rattle.chip_explore.specs.Scripts.{IsScript}

abbrev pub is_among : List Bool → ℕ → Bool
is_among addresses pc = slice_index_or addresses pc true

abbrev pub is_at_one : List Bool → State → Bool
is_at_one addresses s = is_some s.core.stopped || is_among addresses s.core.pc

abbrev pub StaysAmong : (rate allowed : ℕ) → (addresses : List Bool) → State → ℕ → Type 0
StaysAmong rate allowed addresses start n =
    (held : ℕ → ℕ) → IsScript allowed held →
    (t : ℕ) → t ≤ n → is_at_one addresses (run step_of rate held start t) ≡ true
