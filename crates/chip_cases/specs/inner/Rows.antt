-- Which suffixes of the answered lines match the expected lines (chosen by this project).
use Rattle.std.specs.Prelude.{◌≡◌, ℕ, ◌-◌, ◌<◌, ◌↔◌, ◌&&◌, ◌||◌, Bool, true, false, List, drop, length, if◌then◌else◌}
use Rattle.std.specs.List.{slice_index_or}
use Rattle.std.specs.Str.{bytes_eq}
use Rattle.chip_cases.specs.Matching.{Matches, any_lines}

-- Element N of a row is whether the suffix that consists of the last N answered lines matches the
-- expected lines.
pub record IsRow (expected answered : List (List ℕ)) (row : List Bool) : Type 0 where
  pub each : (count : ℕ) → count < length row → (slice_index_or row count false ≡ true)
      ↔ Matches expected (drop (length answered - count) answered)

-- Whether a suffix of the answered lines that begins with `first` matches the expected lines from
-- `line` on. `later` is whether the suffix without `first` does. `behind` and `next` are whether the
-- suffix with `first` and the suffix without `first` match the expected lines after `line`.
abbrev pub stands_for : (line first : List ℕ) → (later behind next : Bool) → Bool
stands_for line first later behind next =
    if bytes_eq line any_lines then later || behind else bytes_eq first line && next
