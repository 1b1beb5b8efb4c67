-- Tables of words (chosen by this project).
use Rattle.std.specs.Prelude.{ℕ, List, [], ◌∷◌, Option, Some, None, if◌then◌else◌}
use Rattle.std.specs.Str.{bytes_eq}

-- the value beside a word in a table, if the table has the word
abbrev pub find_word : {A : Type 0} → List (List ℕ × A) → List ℕ → Option A
find_word [] w = None
find_word (row ∷ rows) w = if bytes_eq row.0 w then Some row.1 else find_word rows w
