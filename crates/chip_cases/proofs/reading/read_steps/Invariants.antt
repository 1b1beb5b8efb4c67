use Rattle.std.proofs.Common.{◌≡◌, ◌≤◌, ◌++◌, length, map}
use Rattle.std.specs.Str.Lines.{lines}
use Rattle.chip_cases.specs.Cases.{behind_steps}
use Rattle.chip_cases.specs.Steps.{expectation_of, steps_below}
use Rattle.chip_cases.proofs.reading.read_steps.Given as goal

abbrev pub invariant-loop-alloc : goal.invariant-loop-alloc
invariant-loop-alloc l = record {
  so_far : map expectation_of l.steps.items ++ steps_below (lines l.place.rest.now) ≡ steps_below (lines l.fn.begun.rest.now);
  behind : behind_steps (lines l.place.rest.now) ≡ behind_steps (lines l.fn.begun.rest.now);
  shorter : length l.place.rest.now ≤ length l.fn.begun.rest.now;
}

abbrev pub decreases-loop-alloc : goal.decreases-loop-alloc
decreases-loop-alloc l = length l.place.rest.now
