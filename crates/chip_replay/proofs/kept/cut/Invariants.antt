use Rattle.std.proofs.Common.{◌≡◌, ◌*◌, ◌++◌, take, drop, map, if◌then◌else◌, nat_lt}
use Rattle.chip_replay.specs.Limits.{never}
use Rattle.chip_replay.specs.declared.kept.TheConstants.{PART}
use Rattle.chip_replay.proofs.kept.cut.Given as goal

abbrev pub invariant-loop-place : goal.invariant-loop-place
invariant-loop-place l =
    l.first_touch ≡ map (λ first. if nat_lt first l.reach then first else never) (take (l.place * PART) l.initial.first_touch) ++ drop (l.place * PART) l.initial.first_touch
