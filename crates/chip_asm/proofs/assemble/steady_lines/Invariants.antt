use Rattle.chip_asm.specs.inner.Infos.{AreSteady}
use Rattle.chip_asm.proofs.assemble.steady_lines.Given as goal

abbrev pub invariant-loop-index : goal.invariant-loop-index
invariant-loop-index l = AreSteady l.lines l.index
