-- The names of columns that have not been read yet (chosen by this project).
use Rattle.std.specs.Prelude.{ℕ, ◌+◌, List, [], length, Option, Some, None}
use Rattle.std.specs.List.{slice_split}
use Rattle.std.specs.Borrow.{Bor}
use Rattle.chip_trace.specs.Header.{is_space}

-- the names that have not been read yet
abbrev pub names_left : Option (Bor (List ℕ)) → List (List ℕ)
names_left None = []
names_left (Some names) = slice_split is_space names.now

-- the length in bytes of the text that hasn't been read yet, plus one; 0 if no text is left
abbrev pub bytes_left : Option (Bor (List ℕ)) → ℕ
bytes_left None = 0
bytes_left (Some names) = length names.now + 1
