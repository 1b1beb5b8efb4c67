-- A list of numbers as a mask in which number k is bit k, and the mask of the spoiled parts.
-- Source: chosen by this project.
use Rattle.std.specs.Prelude.{◌≡◌, ℕ, ◌^◌, ◌⊎◌, false, List, [], ◌∷◌, bit_or}
use Rattle.chip_machine.specs.Forgotten.{is_one_forgotten}

abbrev pub mask_of : List ℕ → ℕ
mask_of [] = 0
mask_of (p ∷ ps) = bit_or (2 ^ p) (mask_of ps)

-- the mask of the spoiled parts, or 0 if the used parts are known
abbrev pub IsSpoiltBy : (mask forgotten : ℕ) → (used spoiled : List ℕ) → Type 0
IsSpoiltBy mask forgotten used spoiled =
    (mask ≡ mask_of spoiled) ⊎ ((mask ≡ 0) × (is_one_forgotten forgotten used ≡ false))
