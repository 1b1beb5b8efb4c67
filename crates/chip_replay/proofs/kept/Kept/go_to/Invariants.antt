use Rattle.std.proofs.Common.{◌≡◌, ◌+◌, ◌-◌, ◌≤◌}
use Rattle.chip_replay.specs.inner.Kept.{IsAt, IsRight}
use Rattle.chip_replay.proofs.kept.Kept.go_to.Given as goal

abbrev pub invariant-loop-at : goal.invariant-loop-at
invariant-loop-at g l =
    let m = g.M.Traced in
    record {
      spacing : l.self.spacing ≡ l.fn.self.spacing;
      right : IsRight m.is_proper m.touches m.step_of l.rate l.start l.keys l.self;
      is_at : IsAt m.step_of l.rate l.start l.keys l.self.current l.self.holding l.self.reach l.at;
      within : l.at ≤ l.step;
      reach_kept : l.fn.self.reach ≤ l.self.reach;
      from : l.initial.at ≤ l.at;
      ran_kept : l.fn.self.ran ≤ l.self.ran;
      steps : l.self.ran ≤ l.fn.self.ran + (l.at - l.initial.at);
    }

abbrev pub decreases-loop-at : goal.decreases-loop-at
decreases-loop-at g l = l.step - l.at
