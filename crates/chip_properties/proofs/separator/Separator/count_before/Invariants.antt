use Rattle.std.proofs.Common.{◌≡◌, ◌+◌, ◌≤◌, drop}
use Rattle.chip_properties.specs.computed.Separated.{count_before}
use Rattle.chip_properties.proofs.separator.Separator.count_before.Given as goal

abbrev pub invariant-loop-index : goal.invariant-loop-index
invariant-loop-index l = record {
  counted : l.index + count_before l.self l.depth (drop l.index l.tokens) ≡ count_before l.self 0 l.tokens;
  low : l.depth ≤ l.index;
}
