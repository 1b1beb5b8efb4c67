-- The files that the commands wrote (chosen by this project). `wrote` states that a file received
-- these bytes, and only a successful write establishes it.
--     IsFoundWritten    an image, if there is one
--     IsImageWritten    the image of a source
use Rattle.std.specs.Prelude.{◌≡◌, List, ℕ, Option, Some, None}
use Rattle.chip_host.specs.Reading.{image_in}

abbrev pub IsFoundWritten : (wrote : List ℕ → Type 0) → Option (List ℕ) → Type 0
IsFoundWritten wrote None = ⊥
IsFoundWritten wrote (Some image) = wrote image

abbrev pub IsImageWritten : (wrote : List ℕ → Type 0) → Type 0
IsImageWritten wrote =
    (source : List ℕ) × ((image : List ℕ) × (image_in source ≡ Some image) × wrote image)
