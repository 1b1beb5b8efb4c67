-- The place of the image in the memory at the start.
-- Source: chosen by this project, except that programs begin at 512 (COSMAC VIP manual).
use Rattle.std.specs.Prelude.{◌≡◌, ◌-◌, ◌≤◌, ℕ, List, ◌++◌, length, take, drop, replicate}
use Rattle.chip_lang.specs.declared.limits.TheConstants.{IMAGE_BYTES, IMAGE_START}
use Rattle.chip_machine.specs.Start.{start_memory}

-- starting at the address of the image, the memory contains the image and then zeros
abbrev pub ImageAndZeros : Type 0
ImageAndZeros =
    (image : List ℕ) → length image ≤ IMAGE_BYTES
    → drop IMAGE_START (start_memory image) ≡ image ++ replicate (IMAGE_BYTES - length image) 0

-- below that address, the memory is the same for every image
abbrev pub SameBelowTheImage : Type 0
SameBelowTheImage =
    (old new : List ℕ) → take IMAGE_START (start_memory old) ≡ take IMAGE_START (start_memory new)
