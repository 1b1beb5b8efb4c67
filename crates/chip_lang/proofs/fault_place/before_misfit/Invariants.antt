use Rattle.std.proofs.Common.{◌≡◌, ◌≤◌, ◌+◌, length}
use Rattle.std.specs.Option.{option_copied}
use Rattle.chip_lang.specs.Line.{pieces, pieces_in}
use Rattle.chip_lang.specs.FaultPlace.{before_misfit}
use Rattle.chip_lang.proofs.Misfit.{joined}
use Rattle.chip_lang.proofs.fault_place.before_misfit.Given as goal

abbrev pub invariant-loop-rest : goal.invariant-loop-rest
invariant-loop-rest l = record {
  left : l.before + before_misfit l.values (pieces_in (option_copied l.rest)) ≡ before_misfit l.values (pieces l.operands);
  bound : l.before + joined (pieces_in (option_copied l.rest)) ≤ length l.operands + 1;
}

abbrev pub decreases-loop-rest : goal.decreases-loop-rest
decreases-loop-rest l = length (pieces_in (option_copied l.rest))
