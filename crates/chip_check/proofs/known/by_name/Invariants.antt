use Rattle.std.proofs.Common.{take}
use Rattle.chip_check.specs.inner.Known.{Agree, listed}
use Rattle.chip_check.proofs.known.by_name.Given as goal

abbrev pub invariant-loop-name : goal.invariant-loop-name
invariant-loop-name l = Agree (listed l.found.entries) (take l.name-index l.symbols)
