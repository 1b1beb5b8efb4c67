use Rattle.chip_machine.specs.Relevant.{Alike}
use Rattle.chip_explore.proofs.leg.erase.Given as goal

abbrev pub invariant-loop-place : goal.invariant-loop-place
invariant-loop-place l = Alike l.parts l.machine l.fn.machine
