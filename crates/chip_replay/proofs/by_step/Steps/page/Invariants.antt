use Rattle.std.proofs.Common.{◌+◌, ◌-◌, ℕ, ◌<◌, ◌≤◌, length, slice_index_or}
use Rattle.chip_replay.specs.inner.Changes.{rank, all_events, count_before}
use Rattle.chip_replay.specs.declared.by_step.Event.{Event}
use Rattle.chip_replay.proofs.by_step.Steps.page.Given as goal

abbrev pub invariant-loop-low : goal.invariant-loop-low
invariant-loop-low l =
    record {
      parted : l.low ≤ l.high;
      within : l.high ≤ length l.self.pages.items;
      before : (i : ℕ) (d : Event) → i < count_before l.self.pages.items l.low → rank (slice_index_or (all_events l.self.pages.items) i d) < l.wanted;
      after : (i : ℕ) (d : Event) → l.high < length l.self.pages.items → count_before l.self.pages.items (l.high + 1) ≤ i + 1 → i < length (all_events l.self.pages.items) → l.wanted ≤ rank (slice_index_or (all_events l.self.pages.items) i d);
    }

abbrev pub decreases-loop-low : goal.decreases-loop-low
decreases-loop-low l = l.high - l.low
