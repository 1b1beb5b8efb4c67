use Rattle.std.proofs.Common.{◌≡◌, ◌-◌, ℕ, ◌<◌, ◌≤◌, false, length, slice_index_or}
use Rattle.chip_replay.specs.Mask.{mask}
use Rattle.chip_replay.specs.Limits.{never}
use Rattle.chip_replay.specs.inner.Changes.{all_events, index_of, IsPlace}
use Rattle.chip_replay.specs.declared.by_step.Event.{Event}
use Rattle.chip_replay.proofs.ByStep.{IsUpTo}
use Rattle.chip_replay.proofs.keys.Keys.pass_events.Given as goal

abbrev pub invariant-loop-until : goal.invariant-loop-until
invariant-loop-until l =
    record {
      size : length l.known.down ≡ 16;
      as_mask : l.known.keys ≡ mask (λ k. slice_index_or l.known.down k false) 16;
      place : IsPlace l.steps.pages.items l.place;
      within : index_of l.steps.pages.items l.place ≤ length (all_events l.steps.pages.items);
      next : (d : Event) → index_of l.steps.pages.items l.place < length (all_events l.steps.pages.items) → l.until ≡ (slice_index_or (all_events l.steps.pages.items) (index_of l.steps.pages.items l.place) d).step;
      past : length (all_events l.steps.pages.items) ≤ index_of l.steps.pages.items l.place → l.until ≡ never;
      early : (i : ℕ) (d : Event) → i < index_of l.steps.pages.items l.place → (slice_index_or (all_events l.steps.pages.items) i d).step ≤ l.step;
      up_to : IsUpTo l.self (all_events l.steps.pages.items) l.fn.known.until (index_of l.steps.pages.items l.place) l.known.down;
    }

abbrev pub decreases-loop-until : goal.decreases-loop-until
decreases-loop-until l = length (all_events l.steps.pages.items) - index_of l.steps.pages.items l.place
