use Rattle.std.proofs.Common.{◌≡◌}
use Rattle.std.specs.List.{flat_map, range_with_len}
use Rattle.chip_views.specs.Picture.{picture_line}
use Rattle.chip_views.proofs.picture.screen_text.Given as goal

abbrev pub invariant-loop-line : goal.invariant-loop-line
invariant-loop-line l = l.text.items ≡ flat_map (picture_line l.letters l.machine.core.high l.machine.core.lit) (range_with_len 0 l.line)
