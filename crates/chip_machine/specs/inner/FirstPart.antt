-- The part of a text before its first comma, as the code finds it.
-- Source: chosen by this project.
use Rattle.std.specs.Prelude.{◌≡◌, List, ℕ, ◌∷◌, ◌++◌, length, Option, Some, None}
use Rattle.memchr.specs.Find.{Nowhere, Passes, is_byte}
use Rattle.chip_machine.specs.QuirkList.{comma}

-- the part before the comma, and the rest after that comma if there is one
abbrev pub IsFirstPart : (text part : List ℕ) → Option (List ℕ) → Type 0
IsFirstPart text part None =
    (text ≡ part) × Nowhere (Passes (is_byte comma) part) 0 (length part)
IsFirstPart text part (Some rest) =
    (text ≡ part ++ comma ∷ rest) × Nowhere (Passes (is_byte comma) part) 0 (length part)
