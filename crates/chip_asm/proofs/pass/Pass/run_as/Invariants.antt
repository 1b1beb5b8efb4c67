use Rattle.std.proofs.Common.{◌≡◌, ◌-◌, ◌≤◌, length}
use Rattle.chip_lang.specs.declared.limits.TheConstants.{MEMORY_BYTES}
use Rattle.chip_asm.specs.inner.Passes.{Change, IsUnderWay}
use Rattle.chip_asm.proofs.pass.Pass.run_as.Given as goal

abbrev pub invariant-loop-place : goal.invariant-loop-place
invariant-loop-place l = record {
  high : l.here ≤ MEMORY_BYTES;
  after : l.first ≤ l.place;
  within : l.place ≤ length l.lines;
  same : l.self.active ≡ l.active;
  under_way : (high : l.here ≤ MEMORY_BYTES) (e : Change) → IsUnderWay e l.lines l.fn.self l.fn.placements l.fn.tally l.from l.fn.image l.first
      → IsUnderWay e l.lines (record l.self { here = l.here; within = high }) l.placements l.tally l.from l.image l.place;
}

abbrev pub decreases-loop-place : goal.decreases-loop-place
decreases-loop-place l = length l.lines - l.place
