-- When an answer matches the expected lines (chosen by this project).
use Rattle.std.specs.Prelude.{◌≡◌, ◌⊎◌, ℕ, ◌==◌, Bool, not, List, [], ◌∷◌, ◌++◌, codes, filter, length, map}
use Rattle.std.specs.Borrow.{Bor}
use Rattle.std.specs.Str.Lines.{lines}

-- the texts that references point to
abbrev pub texts : List (Bor (List ℕ)) → List (List ℕ)
texts = map (λ text. text.now)

-- the expected line that matches any lines
abbrev pub any_lines : List ℕ
any_lines = codes "..."

-- An expected line `...` matches any lines, and any other expected line matches only itself.
abbrev pub StandsFor : List ℕ → List (List ℕ) → Type 0
StandsFor line answered = (line ≡ any_lines) ⊎ (answered ≡ line ∷ [])

-- The answered lines match if they can be split into parts, one for each expected line, so that
-- each expected line matches its part.
abbrev pub Matches : (expected answered : List (List ℕ)) → Type 0
Matches [] answered = answered ≡ []
Matches (line ∷ expected) answered =
    (part : List (List ℕ)) × ((rest : List (List ℕ))
    × (answered ≡ part ++ rest) × StandsFor line part × Matches expected rest)

abbrev pub is_some_line : List ℕ → Bool
is_some_line line = not (length line == 0)

-- the lines of an answer that count, which are the nonempty ones
abbrev pub lines_that_count : List ℕ → List (List ℕ)
lines_that_count answer = filter is_some_line (lines answer)

-- An answer matches the expected lines if its nonempty lines do.
abbrev pub IsAnswered : List (List ℕ) → List ℕ → Type 0
IsAnswered expected answer = Matches expected (lines_that_count answer)
