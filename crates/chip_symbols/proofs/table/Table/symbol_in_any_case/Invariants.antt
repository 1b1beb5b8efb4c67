use Rattle.std.proofs.Common.{◌≡◌, take, map, None}
use Rattle.chip_lang.specs.Line.{upper}
use Rattle.chip_symbols.specs.Names.{lookup_name}
use Rattle.chip_symbols.proofs.table.Table.symbol_in_any_case.Given as goal

abbrev pub invariant-loop-entry : goal.invariant-loop-entry
invariant-loop-entry l = lookup_name (take l.entry-index l.self.symbols) (map upper l.name) ≡ None
