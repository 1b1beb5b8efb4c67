-- The tokens of a property (chosen by this project).
use Rattle.std.specs.Prelude.{ℕ, ◌==◌, ◌&&◌, if◌then◌else◌, List, [], ◌∷◌}
use Rattle.chip_lang.specs.declared.lexeme.Lexeme.{Lexeme}
use Rattle.chip_lang.specs.Line.{lexemes_of}

-- a text with `<>` in place of each `!=`: in a property, both signs mean that two sums differ
-- (chosen by this project, because most other languages write `!=`). Elsewhere in the language, no
-- token begins with `!`.
abbrev pub respelled : List ℕ → List ℕ
respelled [] = []
respelled (a ∷ []) = a ∷ []
respelled (a ∷ b ∷ bytes) =
    if a == 33 && b == 61 then 60 ∷ 62 ∷ respelled bytes else a ∷ respelled (b ∷ bytes)

-- the tokens of a property's text: the tokens of the language after each `!=` is replaced by `<>`
abbrev pub property_tokens : List ℕ → List Lexeme
property_tokens text = lexemes_of (respelled text)
