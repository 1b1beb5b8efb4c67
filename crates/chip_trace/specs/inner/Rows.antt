-- The rows of a screen as numbers of 128 bits (chosen by this project).
use Rattle.std.specs.Prelude.{ℕ, List}
use Rattle.std.specs.Int.{to_be_bytes, w128}
use Rattle.std.specs.List.{flat_map}

-- the bytes of a row, with the highest byte first
unfoldable pub bytes_of_row : ℕ → List ℕ
bytes_of_row points = to_be_bytes w128 points

-- the bytes of several rows, one row after the other
unfoldable pub bytes_of_rows : List ℕ → List ℕ
bytes_of_rows rows = flat_map bytes_of_row rows
