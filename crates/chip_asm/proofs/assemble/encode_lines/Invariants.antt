use Rattle.std.proofs.Common.{◌≡◌, ℕ, ◌+◌, ◌-◌, ◌≤◌, map, slice_get}
use Rattle.chip_asm.specs.inner.Passes.{AreCoded, Change, IsEncodedUnder, IsTally, again_up_to}
use Rattle.chip_asm.specs.inner.Placements.{found}
use Rattle.chip_asm.proofs.assemble.encode_lines.Given as goal

abbrev pub invariant-loop-place : goal.invariant-loop-place
invariant-loop-place l = record {
  after : l.places.start ≤ l.place;
  within : l.place ≤ l.places.end;
  tally : IsTally l.placements l.tally;
  laid : map found l.placements ≡ map found l.fn.placements;
  behind : (place : ℕ) → l.place ≤ place → slice_get l.placements place ≡ slice_get l.fn.placements place;
  coded : (e : Change) → IsEncodedUnder e l.names l.lines → AreCoded e l.fn.placements l.fn.image l.fn.places.start → AreCoded e l.placements l.image l.place;
  encoded : (e : Change) → IsEncodedUnder e l.names l.lines → AreCoded e l.fn.placements l.fn.image l.fn.places.start → l.meter.encoded + again_up_to e l.fn.places.start ≤ l.fn.meter.encoded + again_up_to e l.place;
  not_lowered : l.fn.meter.encoded ≤ l.meter.encoded;
  parsed : l.meter.parsed ≡ l.fn.meter.parsed;
}

abbrev pub decreases-loop-place : goal.decreases-loop-place
decreases-loop-place l = l.places.end - l.place
