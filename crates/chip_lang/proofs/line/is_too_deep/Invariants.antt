use Rattle.std.proofs.Common.{◌≡◌, ◌≤◌, drop}
use Rattle.chip_lang.specs.Line.{too_deep}
use Rattle.chip_lang.proofs.line.is_too_deep.Given as goal

abbrev pub invariant-loop-token : goal.invariant-loop-token
invariant-loop-token l = record {
  opened : l.opened ≤ l.token-index;
  closed : l.closed ≤ l.token-index;
  rest : too_deep l.opened l.closed (drop l.token-index l.tokens) ≡ too_deep 0 0 l.tokens;
}
