-- The progress of a comparison (chosen by this project).
use Rattle.std.specs.Prelude.{◌≡◌, ℕ, ◌<◌, ◌==◌, List, [], ◌∷◌, ◌++◌, drop, take, length, if◌then◌else◌}
use Rattle.chip_trace.specs.declared.limits.TheConstants.{LINES_BEFORE}
use Rattle.chip_trace.specs.Difference.{lower_at, last_lines}

-- the kept lines with one more line; if there are already `LINES_BEFORE` lines, the oldest one is dropped
abbrev pub with_line : List (List ℕ) → List ℕ → List (List ℕ)
with_line kept line =
    (if length kept == LINES_BEFORE then drop 1 kept else kept) ++ line ∷ []

-- the first `count` lines of ours and theirs are equal, and the other lines remain
pub record AlikeSoFar (ours theirs ours_left theirs_left kept : List (List ℕ)) (count : ℕ)
    : Type 0 where
  pub ours_left_is : ours_left ≡ drop count ours
  pub theirs_left_is : theirs_left ≡ drop count theirs
  pub alike : (place : ℕ) → place < count → lower_at ours place ≡ lower_at theirs place
  pub kept_is : kept ≡ last_lines (take count ours)
