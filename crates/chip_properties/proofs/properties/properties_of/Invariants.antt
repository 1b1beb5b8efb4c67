use Rattle.chip_properties.proofs.Told.{UpTo}
use Rattle.chip_properties.proofs.properties.properties_of.Given as goal

abbrev pub invariant-loop-index : goal.invariant-loop-index
invariant-loop-index l = UpTo l.source.lines l.index l.found
