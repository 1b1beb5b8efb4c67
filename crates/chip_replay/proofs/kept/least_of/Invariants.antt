use Rattle.std.proofs.Common.{ℕ, ◌<◌, ◌≤◌, slice_index}
use Rattle.chip_replay.proofs.kept.least_of.Given as goal

abbrev pub invariant-loop-step : goal.invariant-loop-step
invariant-loop-step l = (i : ℕ) → i < l.step-index → l.least ≤ slice_index l.fn.steps i
