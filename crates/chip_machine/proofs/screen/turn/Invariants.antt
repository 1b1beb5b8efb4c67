use Rattle.std.proofs.Common.{not, ◌==◌}
use Rattle.chip_machine.specs.inner.Stored.{AreTurned}
use Rattle.chip_machine.specs.Points.{lights}
use Rattle.chip_machine.proofs.screen.turn.Given as goal

abbrev pub invariant-loop-row : goal.invariant-loop-row
invariant-loop-row l = AreTurned l.from l.row (λ column row. lights l.stripe column) l.initial.rows l.rows (not (l.met == 0))
