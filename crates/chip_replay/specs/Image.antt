-- An image in the memory of a machine, starting at the address of programs.
-- Source: COSMAC VIP manual for the address; this project chose the rest.
--     padded         an image, followed by zeros up to the end of the memory
--     with_image     a state whose memory contains the image, followed by zeros
--     patched        a state in which the bytes of one image replace those of another
--     AgreeOutside   two images, each followed by zeros, agree outside a range of indexes
--     affected       the first step below f that touches a byte at which two images differ, or f if
--                    there is none
use Rattle.std.specs.Prelude.{◌≡◌, ℕ, ◌<◌, ◌≤◌, ◌+◌, ◌-◌, Bool, ◌&&◌, List, ◌++◌, length, take, replicate, slice_index}
use Rattle.std.specs.List.{list_any, range_with_len}
use Rattle.chip_replay.specs.Limits.{image_start, image_room}
use Rattle.chip_replay.specs.Run.{run, first_below}
use Rattle.chip_machine.specs.State.{differs, exchanged}
use Rattle.chip_machine.specs.Touched.{touched}

-- an image, followed by zeros up to the end of the memory
abbrev pub padded : List ℕ → List ℕ
padded image = image ++ replicate (image_room - length image) 0

-- starting at the address of programs, the memory is the image followed by zeros; nothing else changes
abbrev pub with_image : {S : Type 0} → (S → List ℕ) → (S → List ℕ → S) → List ℕ → S → S
with_image memory with_memory image s = with_memory s (take image_start (memory s) ++ padded image)

-- wherever two images, each followed by zeros, differ, the memory gets the byte of the new image; all
-- other bytes stay
unfoldable pub patched : {S : Type 0} → (S → List ℕ) → (S → List ℕ → S) → List ℕ → List ℕ → S → S
patched memory with_memory old new s = with_memory s (exchanged (memory s) image_start old new)

-- two images, each followed by zeros, agree outside the indexes from `first` to before `end`
pub record AgreeOutside (first end : ℕ) (old new : List ℕ) : Type 0 where
  pub before : (i : ℕ) → i < first → slice_index old i ≡ slice_index new i
  pub after : (i : ℕ) → end ≤ i → slice_index old i ≡ slice_index new i

-- whether a state's next step touches a byte at which the images differ
unfoldable pub touches_change : {S : Type 0} → (S → List ℕ) → List ℕ → List ℕ → S → Bool
touches_change touches old new s =
    list_any (λ i. differs old new i && touched touches s (image_start + i))
    (range_with_len 0 image_room)

-- the first step below f that touches a byte at which the images differ, or f if there is none
abbrev pub affected : {S : Type 0} → (S → List ℕ) → (S → ℕ → Bool → S) → ℕ → (ℕ → ℕ) → List ℕ
    → List ℕ → S → ℕ → ℕ
affected touches after rate held old new start f =
    first_below (λ s. touches_change touches old new (run after rate held start s)) f
