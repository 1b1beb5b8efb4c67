use Rattle.std.proofs.Common.{◌≡◌, ℕ, ◌-◌, ◌<◌, ◌≤◌, false, length, slice_index_or}
use Rattle.chip_replay.specs.inner.Changes.{after_events}
use Rattle.chip_replay.specs.Mask.{mask}
use Rattle.chip_replay.specs.declared.by_step.Event.{Event}
use Rattle.chip_replay.proofs.keys.pass.Given as goal

abbrev pub invariant-loop-passed : goal.invariant-loop-passed
invariant-loop-passed l =
    record {
      at_most : l.passed ≤ length l.events;
      size : length l.down ≡ 16;
      as_mask : l.mask ≡ mask (λ k. slice_index_or l.down k false) 16;
      early : (i : ℕ) (d : Event) → i < l.passed → (slice_index_or l.events i d).step ≤ l.step;
      down : l.down ≡ after_events l.fn.down l.events l.passed;
    }

abbrev pub decreases-loop-passed : goal.decreases-loop-passed
decreases-loop-passed l = length l.events - l.passed
