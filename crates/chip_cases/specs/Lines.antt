-- The kinds of lines in a file of cases that can be recognized from the line alone (chosen by this project).
use Rattle.std.specs.Prelude.{ℕ, ◌==◌, ◌||◌, Bool, true, List, [], ◌∷◌, codes}
use Rattle.std.specs.List.{after_first, before_first}
use Rattle.std.specs.Str.{bytes_eq}

abbrev pub is_space : ℕ → Bool
is_space byte = byte == 32

-- the bytes before the first space
abbrev pub first_word : List ℕ → List ℕ
first_word line = before_first is_space line

-- the bytes after the first space
abbrev pub other_words : List ℕ → List ℕ
other_words line = after_first is_space line

-- whether a line is empty or a comment, which begins with `#`
abbrev pub is_skipped : List ℕ → Bool
is_skipped [] = true
is_skipped (byte ∷ line) = byte == 35

-- whether a line is a command for which a refusal is expected
abbrev pub is_refused : List ℕ → Bool
is_refused line = bytes_eq (first_word line) (codes "!")

-- whether a line is a command
abbrev pub is_command : List ℕ → Bool
is_command line = bytes_eq (first_word line) (codes ">") || is_refused line

-- whether a line is the first line of a case
abbrev pub is_case : List ℕ → Bool
is_case line = bytes_eq (first_word line) (codes "case")

-- whether a line begins a new part of the file, which is a command or a case
abbrev pub begins_part : List ℕ → Bool
begins_part line = is_command line || is_case line

-- whether a line precedes the lines of a source, and whether it follows them
abbrev pub begins_source : List ℕ → Bool
begins_source line = bytes_eq line (codes "source")

abbrev pub ends_source : List ℕ → Bool
ends_source line = bytes_eq line (codes "end")
