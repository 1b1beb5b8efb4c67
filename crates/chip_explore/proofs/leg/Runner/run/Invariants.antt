use Rattle.std.proofs.Common.{◌≤◌, ℕ}
use Rattle.chip_explore.specs.declared.limits.TheConstants.{MOST_QUIET_STEPS}
use Rattle.chip_explore.specs.inner.Cover.{Grows, Safe, SafeFor, View}
use Rattle.chip_explore.proofs.leg.Runner.run.Given as goal

abbrev pub invariant-loop-end : goal.invariant-loop-end
invariant-loop-end l =
    record {
      grows : Grows l.fn.executed l.executed;
      few : l.left ≤ MOST_QUIET_STEPS;
      path : (v : View) → Grows l.executed v.executed → (moves : ℕ) → moves ≤ l.left
          → SafeFor l.setting v moves l.self.forgotten l.self.machine l.step → Safe l.setting v l.fn.self.forgotten l.fn.self.machine l.from;
    }

abbrev pub decreases-loop-end : goal.decreases-loop-end
decreases-loop-end l = l.left
