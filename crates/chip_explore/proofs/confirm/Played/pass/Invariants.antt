use Rattle.std.proofs.Common.{◌≡◌, ◌+◌, ◌-◌, length}
use Rattle.chip_explore.specs.inner.Played.{IsPlayed}
use Rattle.chip_explore.proofs.confirm.Played.pass.Given as goal

abbrev pub invariant-loop-self : goal.invariant-loop-self
invariant-loop-self l = IsPlayed l.events (l.step + 1) l.step l.self

abbrev pub decreases-loop-self : goal.decreases-loop-self
decreases-loop-self l = length l.events - l.self.passed
