use Rattle.std.proofs.Common.{◌≡◌, ◌≤◌, drop}
use Rattle.chip_properties.specs.Nesting.{is_deep}
use Rattle.chip_properties.proofs.separator.is_deep.Given as goal

abbrev pub invariant-loop-token : goal.invariant-loop-token
invariant-loop-token l = record {
  looked : is_deep l.depth (drop l.token-index l.tokens) ≡ is_deep 0 l.tokens;
  low : l.depth ≤ l.token-index;
}
