use Rattle.std.proofs.Common.{◌≡◌, ◌++◌}
use Rattle.std.specs.List.{flat_map, range_with_len}
use Rattle.chip_session.specs.MachineAnswers.{row_line}
use Rattle.chip_session.proofs.machine_answer.push_rows.Given as goal

abbrev pub invariant-loop-row : goal.invariant-loop-row
invariant-loop-row l = l.answer.items ≡ l.initial.answer.items ++ flat_map (row_line l.machine.core.lit) (range_with_len 0 l.row)
