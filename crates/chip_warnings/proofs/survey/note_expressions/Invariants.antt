use Rattle.std.proofs.Common.{◌≡◌, ◌||◌, ℕ, List, length}
use Rattle.std.specs.List.{list_any}
use Rattle.std.specs.Str.{bytes_eq}
use Rattle.chip_lang.specs.SeenLine.{seen_line}
use Rattle.chip_lang.specs.Uses.{names_used}
use Rattle.chip_warnings.proofs.Names.{has}
use Rattle.chip_warnings.proofs.survey.note_expressions.Given as goal

abbrev pub invariant-loop-name : goal.invariant-loop-name
invariant-loop-name l =
    (name : List ℕ) → (has l.used.keys name || list_any (bytes_eq name) l.names) ≡ (has l.initial.used.keys name || list_any (bytes_eq name) (names_used (seen_line l.line)))

abbrev pub decreases-loop-name : goal.decreases-loop-name
decreases-loop-name l = length l.names
