use Rattle.std.proofs.Common.{◌≡◌, ◌++◌, length}
use Rattle.chip_views.specs.Dis.{source_of_image}
use Rattle.chip_views.proofs.dis.text_of_image.Given as goal

abbrev pub decreases-loop-rest : goal.decreases-loop-rest
decreases-loop-rest l = length l.rest

abbrev pub invariant-loop-rest : goal.invariant-loop-rest
invariant-loop-rest l = l.text.items ++ source_of_image l.rest ≡ source_of_image l.image
