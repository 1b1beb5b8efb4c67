use Rattle.std.proofs.Common.{◌≡◌, ◌≤◌, ◌++◌, length}
use Rattle.std.specs.Str.Lines.{lines}
use Rattle.chip_cases.specs.Matching.{texts}
use Rattle.chip_cases.specs.Cases.{behind_steps}
use Rattle.chip_cases.specs.Steps.{expected_below, steps_below}
use Rattle.chip_cases.proofs.reading.read_expected.Given as goal

abbrev pub invariant-loop-place : goal.invariant-loop-place
invariant-loop-place l = record {
  so_far : texts l.expected.items ++ expected_below (lines l.place.rest.now) ≡ expected_below (lines l.fn.begun.rest.now);
  others : steps_below (lines l.place.rest.now) ≡ steps_below (lines l.fn.begun.rest.now);
  behind : behind_steps (lines l.place.rest.now) ≡ behind_steps (lines l.fn.begun.rest.now);
  shorter : length l.place.rest.now ≤ length l.fn.begun.rest.now;
}

abbrev pub decreases-loop-place : goal.decreases-loop-place
decreases-loop-place l = length l.place.rest.now
