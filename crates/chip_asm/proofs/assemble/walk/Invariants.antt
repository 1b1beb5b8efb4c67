use Rattle.std.proofs.Common.{◌-◌, ◌≤◌, length}
use Rattle.chip_asm.specs.inner.Passes.{Change, IsUnderWay}
use Rattle.chip_asm.proofs.assemble.walk.Given as goal

abbrev pub invariant-loop-place : goal.invariant-loop-place
invariant-loop-place l = record {
  within : l.place ≤ length l.lines;
  under_way : (e : Change) → IsUnderWay e l.lines l.fn.pass l.fn.placements l.fn.tally l.from l.fn.image l.first
      → IsUnderWay e l.lines l.pass l.placements l.tally l.from l.image l.place;
}

abbrev pub decreases-loop-place : goal.decreases-loop-place
decreases-loop-place l = length l.lines - l.place
