-- The state at the start.
-- Source: chosen by this project, except that programs begin at 512 (COSMAC VIP manual).
use Rattle.std.specs.Prelude.{ℕ, ◌<◌, ◌≤◌, List, [], length, replicate, None, false}
use Rattle.std.specs.FinSet as set
use Rattle.chip_lang.specs.declared.limits.TheConstants.{IMAGE_START, MEMORY_BYTES}
use Rattle.chip_machine.specs.declared.limits.TheConstants.{FLAGS, TAPE_BYTES}
use Rattle.chip_machine.specs.declared.quirks.Quirks.{Quirks}
use Rattle.chip_machine.specs.Digits.{small_shapes, big_shapes, bytes_of}
use Rattle.chip_machine.specs.State.{Core, State, overwrite}

-- a memory with the small digits written at 0, the big digits at 80 and the image at `IMAGE_START`
unfoldable pub with_digits_and_image : List ℕ → List ℕ → List ℕ
with_digits_and_image image memory =
    overwrite (overwrite (overwrite memory 0 (bytes_of small_shapes)) 80 (bytes_of big_shapes))
    IMAGE_START image

-- a memory of zeros
unfoldable pub zeros : List ℕ
zeros = replicate MEMORY_BYTES 0

-- the memory before the first step; all other bytes are 0
abbrev pub start_memory : List ℕ → List ℕ
start_memory image = with_digits_and_image image zeros

-- everything except the memory before the first step; the screen is dark and has its low size
abbrev pub start_core : List ℕ → Quirks → Core
start_core tape quirks =
    record {
      registers = replicate 16 0;
      index = 0;
      pc = IMAGE_START;
      frames = [];
      delay = 0;
      sound = 0;
      flags = replicate FLAGS 0;
      tape = tape;
      draws = 0;
      lit = set.empty;
      high = false;
      stopped = None;
      quirks = quirks;
    }

-- the state before the first step
abbrev pub start_of : List ℕ → List ℕ → Quirks → State
start_of image tape quirks = record { core = start_core tape quirks; memory = start_memory image }

-- a tape has 1 to `TAPE_BYTES` bytes
abbrev pub IsTape : List ℕ → Type 0
IsTape tape = (0 < length tape) × (length tape ≤ TAPE_BYTES)
