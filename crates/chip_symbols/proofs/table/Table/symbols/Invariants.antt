use Rattle.std.proofs.Common.{◌≡◌, take}
use Rattle.chip_symbols.proofs.table.Table.symbols.Given as goal

abbrev pub invariant-loop-entry : goal.invariant-loop-entry
invariant-loop-entry l = l.symbols.items ≡ take l.entry-index l.self.symbols
