use Rattle.std.proofs.Common.{◌≡◌, ◌≤◌, ◌+◌, drop}
use Rattle.chip_lang.specs.FaultPlace.{deepest}
use Rattle.chip_lang.proofs.fault_place.deepest.Given as goal

abbrev pub invariant-loop-index : goal.invariant-loop-index
invariant-loop-index l = record {
  opened : l.opened ≤ l.index;
  closed : l.closed ≤ l.index;
  rest : l.index + deepest l.opened l.closed (drop l.index l.tokens) ≡ deepest 0 0 l.tokens;
}
