use Rattle.std.proofs.Common.{◌+◌, slice_index}
use Rattle.chip_replay.specs.Limits.{image_room, image_start}
use Rattle.chip_replay.proofs.Places.{IsLeast}
use Rattle.chip_replay.proofs.kept.least_touch.Given as goal

abbrev pub invariant-loop-i : goal.invariant-loop-i
invariant-loop-i l = IsLeast (λ i. slice_index l.first_touch (image_start + i)) l.old l.new l.i image_room l.reach l.least
