use Rattle.std.proofs.Common.{◌-◌, ◌≤◌}
use Rattle.chip_asm.specs.inner.Infos.{AreInfos}
use Rattle.chip_asm.specs.inner.Passes.{AreSettled}
use Rattle.chip_symbols.specs.Tables.{AreDifferences, Tables}
use Rattle.chip_asm.proofs.assemble.next_unsettled.Given as goal

abbrev pub invariant-loop-place : goal.invariant-loop-place
invariant-loop-place l = record {
  after : l.start ≤ l.place;
  within : l.place ≤ l.end;
  settled : (names : Tables) → AreInfos names.keys l.lines → AreDifferences names l.changed → AreSettled names l.lines l.placements l.start l.place;
}

abbrev pub decreases-loop-place : goal.decreases-loop-place
decreases-loop-place l = l.end - l.place
