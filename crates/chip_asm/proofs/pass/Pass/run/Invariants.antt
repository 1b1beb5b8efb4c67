use Rattle.std.proofs.Common.{◌≡◌, ◌-◌, ◌≤◌, length, true}
use Rattle.chip_asm.specs.inner.Passes.{Change, IsUnderWay}
use Rattle.chip_asm.proofs.pass.Pass.run.Given as goal

abbrev pub invariant-loop-place : goal.invariant-loop-place
invariant-loop-place l = record {
  after : l.first ≤ l.place;
  within : l.place ≤ length l.lines;
  active : l.self.active ≡ true;
  under_way : (e : Change) → IsUnderWay e l.lines l.fn.self l.fn.placements l.fn.tally l.from l.fn.image l.first
      → IsUnderWay e l.lines l.self l.placements l.tally l.from l.image l.place;
}

abbrev pub decreases-loop-place : goal.decreases-loop-place
decreases-loop-place l = length l.lines - l.place
