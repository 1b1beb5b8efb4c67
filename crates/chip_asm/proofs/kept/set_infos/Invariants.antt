use Rattle.chip_asm.proofs.InfoSteps.{ArePut}
use Rattle.chip_asm.proofs.kept.set_infos.Given as goal

abbrev pub invariant-loop-place : goal.invariant-loop-place
invariant-loop-place l = ArePut l.lines l.initial.lines l.infos l.initial.infos l.place
