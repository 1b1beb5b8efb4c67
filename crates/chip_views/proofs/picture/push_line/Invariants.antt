use Rattle.std.proofs.Common.{◌≡◌, ◌++◌}
use Rattle.std.specs.List.{flat_map, range_with_len}
use Rattle.chip_views.specs.Picture.{cell_at}
use Rattle.chip_views.proofs.picture.push_line.Given as goal

abbrev pub invariant-loop-column : goal.invariant-loop-column
invariant-loop-column l =
    l.text.items ≡ l.initial.text.items ++ flat_map (cell_at l.letters l.machine.core.high l.machine.core.lit l.line) (range_with_len 0 l.column)
