use Rattle.std.proofs.Common.{ℕ, List, take}
use Rattle.std.specs.List.{flat_map, list_any}
use Rattle.std.specs.Str.{bytes_eq}
use Rattle.chip_warnings.specs.Seen.{names_of_line}
use Rattle.chip_warnings.specs.inner.Noted.{Has}
use Rattle.chip_warnings.proofs.survey.names_of.Given as goal

abbrev pub invariant-loop-place : goal.invariant-loop-place
invariant-loop-place l =
    (name : List ℕ) → Has l.used name (list_any (bytes_eq name) (flat_map names_of_line (take l.place l.source.lines)))
