use Rattle.std.proofs.Common.{◌≡◌, take}
use Rattle.chip_symbols.proofs.table.Table.with_symbols_alone.Given as goal

abbrev pub invariant-loop-entry : goal.invariant-loop-entry
invariant-loop-entry l = l.table.symbols ≡ take l.entry-index l.self.symbols
