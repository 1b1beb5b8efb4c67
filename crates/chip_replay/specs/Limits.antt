-- The limits of a replay: the constants of the code, under the names that the definitions use.
-- Source: COSMAC VIP manual for the memory and the address of a program; this project chose the rest.
--     last_step      the last step that a query or an event may have
--     most_events    the maximum number of key events
--     IsSpacing      a number of steps allowed between two checkpoints
--     memory_size    the number of bytes of the memory
--     image_start    the first address of an image
--     image_room     the maximum number of bytes of an image
--     never          a number that is not a step
use Rattle.std.specs.Prelude.{ℕ, ◌≤◌}
use Rattle.chip_machine.specs.Limits.{IMAGE_BYTES, IMAGE_START, MEMORY_BYTES}
use Rattle.chip_replay.specs.declared.limits.TheConstants.{LAST_STEP, MOST_EVENTS, LEAST_SPACING, MOST_SPACING, NEVER}

abbrev pub last_step : ℕ
last_step = LAST_STEP

abbrev pub most_events : ℕ
most_events = MOST_EVENTS

abbrev pub IsSpacing : ℕ → Type 0
IsSpacing p = (LEAST_SPACING ≤ p) × (p ≤ MOST_SPACING)

abbrev pub memory_size : ℕ
memory_size = MEMORY_BYTES

abbrev pub image_start : ℕ
image_start = IMAGE_START

abbrev pub image_room : ℕ
image_room = IMAGE_BYTES

abbrev pub never : ℕ
never = NEVER
