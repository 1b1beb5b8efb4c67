use Rattle.std.proofs.Common.{◌≡◌, ◌++◌, ◌∷◌, take}
use Rattle.std.specs.List.{flat_map}
use Rattle.chip_trace.specs.Line.{field_of}
use Rattle.chip_trace.proofs.line.push_others.Given as goal

abbrev pub invariant-loop-column : goal.invariant-loop-column
invariant-loop-column l =
    l.text.items ≡ l.initial.text.items ++ flat_map (λ column. 32 ∷ field_of column l.step l.machine l.is_last) (take l.column-index l.columns)
