use Rattle.std.proofs.Common.{not, ◌==◌, ◌+◌, ◌*◌}
use Rattle.chip_machine.specs.inner.Stored.{AreTurned}
use Rattle.chip_machine.specs.inner.SpriteBytes.{covers_by_length}
use Rattle.chip_machine.proofs.screen.toggle_lines.Given as goal

abbrev pub invariant-loop-row : goal.invariant-loop-row
invariant-loop-row l = AreTurned 0 (l.scale * (l.first + l.row)) (covers_by_length l.high l.x l.y l.sprite) l.initial.rows l.rows (not (l.met == 0))
