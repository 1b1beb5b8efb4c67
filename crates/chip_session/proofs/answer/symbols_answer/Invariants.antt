use Rattle.std.proofs.Common.{◌≡◌, take}
use Rattle.std.specs.List.{flat_map}
use Rattle.chip_asm.specs.Program.{symbols_of}
use Rattle.chip_session.specs.Answers.{symbol_line}
use Rattle.chip_session.proofs.answer.symbols_answer.Given as goal

-- the lines so far
abbrev pub invariant-loop-place : goal.invariant-loop-place
invariant-loop-place l = l.text.items ≡ flat_map symbol_line (take l.place (symbols_of l.source.lines))
