use Rattle.std.proofs.Common.{◌≡◌, take}
use Rattle.std.specs.List.{flat_map}
use Rattle.chip_session.specs.Answers.{fault_line}
use Rattle.chip_session.proofs.answer.faults_text.Given as goal

-- the lines so far
abbrev pub invariant-loop-line : goal.invariant-loop-line
invariant-loop-line l = l.text.items ≡ flat_map fault_line (take l.line-index l.faults)
