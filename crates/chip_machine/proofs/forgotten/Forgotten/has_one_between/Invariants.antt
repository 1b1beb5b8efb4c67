use Rattle.chip_machine.specs.Forgotten.{AreKept}
use Rattle.chip_machine.proofs.forgotten.Forgotten.has_one_between.Given as goal

abbrev pub invariant-loop-place : goal.invariant-loop-place
invariant-loop-place l = AreKept l.self l.at l.place
