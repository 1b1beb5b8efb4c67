use Rattle.std.proofs.Common.{take}
use Rattle.chip_warnings.specs.inner.Noted.{Knows}
use Rattle.chip_warnings.proofs.survey.note_line.Given as goal

abbrev pub invariant-loop-word : goal.invariant-loop-word
invariant-loop-word l = Knows (take l.word-index l.word-items) l.initial.used l.used
