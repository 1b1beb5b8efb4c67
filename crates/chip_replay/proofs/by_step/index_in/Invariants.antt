use Rattle.std.proofs.Common.{◌-◌, ℕ, ◌<◌, ◌≤◌, length, slice_index_or}
use Rattle.chip_replay.specs.inner.Changes.{rank}
use Rattle.chip_replay.specs.declared.by_step.Event.{Event}
use Rattle.chip_replay.proofs.by_step.index_in.Given as goal

abbrev pub invariant-loop-low : goal.invariant-loop-low
invariant-loop-low l =
    record {
      parted : l.low ≤ l.high;
      within : l.high ≤ length l.events;
      before : (i : ℕ) (d : Event) → i < l.low → rank (slice_index_or l.events i d) < l.wanted;
      after : (i : ℕ) (d : Event) → l.high ≤ i → i < length l.events → l.wanted ≤ rank (slice_index_or l.events i d);
    }

abbrev pub decreases-loop-low : goal.decreases-loop-low
decreases-loop-low l = l.high - l.low
