use Rattle.std.proofs.Common.{◌≡◌, ◌+◌, ◌*◌, ◌++◌}
use Rattle.std.specs.List.{flat_map, range_with_len}
use Rattle.chip_session.specs.MachineAnswers.{word_line}
use Rattle.chip_session.proofs.machine_answer.push_disassembly.Given as goal

abbrev pub invariant-loop-place : goal.invariant-loop-place
invariant-loop-place l = l.answer.items ≡ l.initial.answer.items ++ flat_map (λ place. word_line l.machine (l.at + 2 * place)) (range_with_len 0 l.place)
