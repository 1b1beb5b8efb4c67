use Rattle.std.proofs.Common.{◌≡◌, length, take}
use Rattle.chip_replay.proofs.kept.set_apart.Given as goal

abbrev pub invariant-loop-states : goal.invariant-loop-states
invariant-loop-states g l = take l.place l.states.items ≡ take l.place l.initial.states.items

abbrev pub decreases-loop-states : goal.decreases-loop-states
decreases-loop-states g l = length l.states.items
