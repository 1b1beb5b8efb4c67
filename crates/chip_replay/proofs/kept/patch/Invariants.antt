use Rattle.std.proofs.Common.{◌≡◌, take}
use Rattle.chip_machine.specs.State.{exchanged}
use Rattle.chip_replay.specs.Limits.{image_start}
use Rattle.chip_replay.proofs.kept.patch.Given as goal

abbrev pub invariant-loop-i : goal.invariant-loop-i
invariant-loop-i g l =
    l.state
    ≡ g.M.Traced.with_memory l.fn.state (exchanged (g.M.Traced.memory l.fn.state) image_start (take l.i l.fn.old) (take l.i l.fn.new))
