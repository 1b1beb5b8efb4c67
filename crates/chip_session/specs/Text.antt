-- Parts of answers (chosen by this project).
use Rattle.std.specs.Prelude.{ℕ, List, [], ◌∷◌, ◌++◌, codes}
use Rattle.hex.specs.Hex.{encode_lower}

-- a line of bytes in lowercase hexadecimal
abbrev pub hex_line : List ℕ → List ℕ
hex_line bytes = encode_lower bytes ++ 10 ∷ []

-- the line that ends an answer of several lines
abbrev pub full_stop : List ℕ
full_stop = codes "." ++ 10 ∷ []
