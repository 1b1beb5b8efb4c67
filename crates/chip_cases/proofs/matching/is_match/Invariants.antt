use Rattle.std.proofs.Common.{◌≡◌, ◌+◌, ◌≤◌, drop, length, vec_len}
use Rattle.chip_cases.specs.Matching.{texts}
use Rattle.chip_cases.specs.inner.Rows.{IsRow}
use Rattle.chip_cases.proofs.matching.is_match.Given as goal

abbrev pub invariant-loop-left : goal.invariant-loop-left
invariant-loop-left l = record {
  within : l.left ≤ length l.expected;
  whole : vec_len l.row ≡ length l.answered + 1;
  row : IsRow (drop l.left (texts l.expected)) (texts l.answered) l.row.items;
}

abbrev pub decreases-loop-left : goal.decreases-loop-left
decreases-loop-left l = l.left
