use Rattle.std.proofs.Common.{not, ◌==◌, ◌*◌}
use Rattle.chip_machine.specs.inner.Stored.{AreTurned}
use Rattle.chip_machine.specs.inner.SpriteBytes.{covers}
use Rattle.chip_machine.proofs.screen.toggle_all_lines.Given as goal

abbrev pub invariant-loop-line : goal.invariant-loop-line
invariant-loop-line l = AreTurned 0 (l.scale * l.line) (covers l.wraps l.high l.x l.y l.sprite) l.initial.rows l.rows (not (l.met == 0))
