use Rattle.std.proofs.Common.{◌≡◌, ◌++◌, ◌∷◌, take}
use Rattle.std.specs.List.{flat_map}
use Rattle.chip_trace.specs.Columns.{column_name}
use Rattle.chip_trace.proofs.columns.Columns.push_header.Given as goal

abbrev pub invariant-loop-column : goal.invariant-loop-column
invariant-loop-column l =
    l.text.items ≡ l.initial.text.items ++ flat_map (λ column. 32 ∷ column_name column) (take l.column-index l.others)
