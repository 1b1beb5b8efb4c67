use Rattle.std.proofs.Common.{◌≤◌, ℕ, List}
use Rattle.chip_explore.specs.inner.Cover.{View}
use Rattle.chip_explore.specs.inner.Ranks.{Climbs, ClimbsFor}
use Rattle.chip_explore.proofs.leg.Runner.climb.Given as goal

abbrev pub invariant-loop-way : goal.invariant-loop-way
invariant-loop-way l =
    record {
      few : l.left ≤ l.most;
      path : (v : View) (ranks : List ℕ) (rank moves : ℕ) → moves ≤ l.left
          → ClimbsFor l.setting v ranks rank moves l.self.forgotten l.self.machine l.step
          → Climbs l.setting v ranks rank l.most l.fn.self.forgotten l.fn.self.machine l.from;
    }

abbrev pub decreases-loop-way : goal.decreases-loop-way
decreases-loop-way l = l.left
