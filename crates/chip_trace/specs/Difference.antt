-- The first line at which two traces differ (chosen by this project).
use Rattle.std.specs.Prelude.{◌≡◌, ◌≢◌, ℕ, ◌+◌, ◌-◌, ◌<◌, List, ◌++◌, codes, drop, take, length, map, Option, Some, None}
use Rattle.std.specs.Fmt.{decimal}
use Rattle.std.specs.List.{slice_get}
use Rattle.std.specs.Option.{option_map}
use Rattle.std.specs.Str.{str_to_ascii_lowercase}
use Rattle.std.specs.Global.{Vec}
use Rattle.chip_trace.specs.declared.limits.TheConstants.{LINES_BEFORE}
use Rattle.chip_trace.specs.declared.difference.Difference.{Difference}

-- the line at an index (from 0) in lower case, if there is one
abbrev pub lower_at : List (List ℕ) → ℕ → Option (List ℕ)
lower_at lines place = option_map str_to_ascii_lowercase (slice_get lines place)

-- the last `LINES_BEFORE` lines, or all lines if there are fewer
abbrev pub last_lines : List (List ℕ) → List (List ℕ)
last_lines lines = drop (length lines - LINES_BEFORE) lines

-- the bytes of a line
abbrev pub bytes_of : Vec ℕ → List ℕ
bytes_of line = line.items

-- whether a difference is the first one between our lines and theirs: at each earlier index both have equal
-- lines, ignoring the case of letters, and at its own index they don't. The difference contains the lines
-- at its index, one of which may be missing, and our last lines before it.
pub record IsFirstDifference (ours theirs : List (List ℕ)) (found : Difference) : Type 0 where
  pub alike_before : (place : ℕ) → place < found.index → lower_at ours place ≡ lower_at theirs place
  pub differ : lower_at ours found.index ≢ lower_at theirs found.index
  pub ours_there : option_map bytes_of found.ours ≡ slice_get ours found.index
  pub theirs_there : option_map bytes_of found.theirs ≡ slice_get theirs found.index
  pub lines_before : map bytes_of found.before.items ≡ last_lines (take found.index ours)

-- the result of a comparison: `None` if both have equal lines, ignoring the case of letters, and otherwise
-- their first difference
abbrev pub IsComparison : (ours theirs : List (List ℕ)) → Option Difference → Type 0
IsComparison ours theirs None =
    map str_to_ascii_lowercase ours ≡ map str_to_ascii_lowercase theirs
IsComparison ours theirs (Some found) = IsFirstDifference ours theirs found

-- the text after the step of a difference: a colon and, if one of the traces has ended, which one. Ours is the
-- trace of a run, and theirs is the trace in a file.
abbrev pub ended_text : (ours theirs : Option (Vec ℕ)) → List ℕ
ended_text None theirs = codes ": the run has ended, and the file goes on\n"
ended_text (Some ours) None = codes ": the file has ended, and the run goes on\n"
ended_text (Some ours) (Some theirs) = codes ":"

-- whether the text of a difference starts with its step and with which of the traces has ended
abbrev pub IsDifferenceText : (from : ℕ) → Difference → (text : List ℕ) → Type 0
IsDifferenceText from found text =
    (rest : List ℕ)
    × (text ≡ codes "differs at step " ++ decimal (from + found.index)
    ++ ended_text found.ours found.theirs ++ rest)
