use Rattle.std.proofs.Common.{length}
use Rattle.chip_symbols.proofs.table.Table.+keep_values.Given as goal

abbrev pub decreases-keep_values : goal.decreases-keep_values
decreases-keep_values l = length l.numbers.now
