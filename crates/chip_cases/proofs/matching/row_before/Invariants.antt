use Rattle.std.proofs.Common.{◌≡◌, ℕ, ◌-◌, ◌∷◌, List, false, get_or, length}
use Rattle.chip_cases.specs.Matching.{texts}
use Rattle.chip_cases.specs.inner.Rows.{IsRow}
use Rattle.chip_cases.proofs.matching.row_before.Given as goal

abbrev pub invariant-loop-count : goal.invariant-loop-count
invariant-loop-count l = record {
  long : length l.row.items ≡ l.count;
  here : l.is_here ≡ get_or l.row.items (l.count - 1) false;
  rows : (others : List (List ℕ)) → IsRow others (texts l.answered) l.behind → IsRow (l.line ∷ others) (texts l.answered) l.row.items;
}
