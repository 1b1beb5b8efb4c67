use Rattle.std.proofs.Common.{◌≡◌, map}
use Rattle.chip_lang.specs.Line.{reading_of}
use Rattle.chip_asm.proofs.WholeImage.{faults_to}
use Rattle.chip_asm.proofs.source.Source.faults.Given as goal

abbrev pub invariant-loop-place : goal.invariant-loop-place
invariant-loop-place l = l.faults.items ≡ faults_to (map reading_of l.self.lines) l.place
