use Rattle.std.proofs.Common.{◌≡◌, ◌++◌, take, drop, map}
use Rattle.chip_replay.specs.Image.{patched}
use Rattle.chip_replay.proofs.kept.patch_all.Given as goal

abbrev pub invariant-loop-state : goal.invariant-loop-state
invariant-loop-state g l =
    l.states ≡ map (patched g.M.Traced.memory g.M.Traced.with_memory l.old l.new) (take l.state-index l.initial.states) ++ drop l.state-index l.initial.states
