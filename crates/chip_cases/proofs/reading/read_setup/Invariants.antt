use Rattle.std.proofs.Common.{◌≡◌, ◌≤◌, length, false}
use Rattle.std.specs.Str.Lines.{lines}
use Rattle.chip_cases.specs.Cases.{behind_setup}
use Rattle.chip_cases.proofs.reading.read_setup.Given as goal

abbrev pub invariant-loop-place : goal.invariant-loop-place
invariant-loop-place l = record {
  behind : behind_setup false (lines l.place.rest.now) ≡ behind_setup false (lines l.fn.begun.rest.now);
  shorter : length l.place.rest.now ≤ length l.fn.begun.rest.now;
}

abbrev pub decreases-loop-place : goal.decreases-loop-place
decreases-loop-place l = length l.place.rest.now
