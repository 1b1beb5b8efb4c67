-- Numbers in hexadecimal (chosen by this project).
use Rattle.std.specs.Prelude.{ℕ, ◌/◌, ◌%◌, ◌^◌, List, [], ◌∷◌, ◌++◌}
use Rattle.std.specs.List.{flat_map}
use Rattle.hex.specs.Hex.{encode_lower}

-- a byte in two hexadecimal digits
abbrev pub hex_byte : ℕ → List ℕ
hex_byte b = encode_lower (b ∷ [])

-- a number of 16 bits in four hexadecimal digits
abbrev pub hex_word : ℕ → List ℕ
hex_word w = encode_lower (w / 256 ∷ w % 256 ∷ [])

-- a number of 64 bits in sixteen hexadecimal digits
abbrev pub hex_sum : ℕ → List ℕ
hex_sum n =
    hex_word (n / 2 ^ 48) ++ hex_word (n / 2 ^ 32 % 2 ^ 16) ++ hex_word (n / 2 ^ 16 % 2 ^ 16)
    ++ hex_word (n % 2 ^ 16)

-- the items, with a space before each item
abbrev pub spaced : (ℕ → List ℕ) → List ℕ → List ℕ
spaced text items = flat_map (λ item. 32 ∷ text item) items
