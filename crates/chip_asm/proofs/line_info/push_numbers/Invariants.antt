use Rattle.std.proofs.Common.{◌≡◌, ◌++◌, List, length}
use Rattle.chip_symbols.specs.Names.{Name}
use Rattle.chip_symbols.specs.Tables.{AreNumbers, Extends}
use Rattle.chip_asm.proofs.line_info.push_numbers.Given as goal

abbrev pub invariant-loop-name : goal.invariant-loop-name
invariant-loop-name l = record {
  are : (front : List Name) → AreNumbers l.initial.table.keys l.initial.numbers.items front
      → (done : List Name) × AreNumbers l.table.keys l.numbers.items done × (done ++ l.names ≡ front ++ l.initial.names);
  keys : Extends l.initial.table.keys l.table.keys;
  symbols : l.table.symbols ≡ l.initial.table.symbols;
  before : l.table.before ≡ l.initial.table.before;
}

abbrev pub decreases-loop-name : goal.decreases-loop-name
decreases-loop-name l = length l.names
