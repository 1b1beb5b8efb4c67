use Rattle.std.proofs.Common.{◌≡◌, ℕ, ◌+◌, ◌<◌, true, false, get_or, length}
use Rattle.chip_cases.proofs.matching.last_row.Given as goal

abbrev pub invariant-loop : goal.invariant-loop
invariant-loop l = record {
  long : length l.row.items ≡ l.index + 1;
  first : get_or l.row.items 0 false ≡ true;
  others : (count : ℕ) → 0 < count → count < length l.row.items → get_or l.row.items count false ≡ false;
}
