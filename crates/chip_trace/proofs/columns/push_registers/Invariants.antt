use Rattle.std.proofs.Common.{◌≡◌, ◌++◌, map}
use Rattle.std.specs.List.{range_with_len}
use Rattle.chip_trace.specs.declared.column.Column.TheVariants.{Register}
use Rattle.chip_trace.proofs.columns.push_registers.Given as goal

abbrev pub invariant-loop-number : goal.invariant-loop-number
invariant-loop-number l = l.columns.items ≡ l.initial.columns.items ++ map (λ x. Register x) (range_with_len 0 l.number)
