use Rattle.std.proofs.Common.{◌≡◌, ◌++◌, take, drop, map, if◌then◌else◌, nat_lt}
use Rattle.chip_replay.specs.Limits.{never}
use Rattle.chip_replay.proofs.kept.cut_each.Given as goal

abbrev pub invariant-loop-first : goal.invariant-loop-first
invariant-loop-first l =
    l.first_touch ≡ map (λ first. if nat_lt first l.reach then first else never) (take l.first-index l.initial.first_touch) ++ drop l.first-index l.initial.first_touch
