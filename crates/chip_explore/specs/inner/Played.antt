-- The events of a script that were applied.
-- Source: own.
--     IsPlayed        the applied events are at steps below one step; the others are in order, at another
--                     step or later; and these keys are down after the applied events
use Rattle.std.specs.Prelude.{◌≡◌, ℕ, ◌+◌, ◌<◌, ◌≤◌, true, false, List, length, take, drop, slice_index_or, None}
use Rattle.chip_replay.specs.Keys.{event_at, is_down}
use Rattle.chip_replay.specs.Mask.{mask}
use Rattle.chip_explore.specs.Scripts.{are_in_order, keys_of}
use Rattle.chip_explore.specs.declared.confirm.Played.{Played}
use Rattle.chip_explore.specs.declared.script.KeyEvent.{KeyEvent}

pub record IsPlayed (events : List KeyEvent) (below from : ℕ) (p : Played) : Type 0 where
  pub size : length p.down ≡ 16
  pub as_mask : p.keys ≡ mask (λ k. slice_index_or p.down k false) 16
  pub none_later : (t k : ℕ) → below ≤ t → event_at (keys_of (take p.passed events)) t k ≡ None
  pub says : (t k : ℕ) → below ≤ t + 1 → k < 16
      → is_down (keys_of (take p.passed events)) k t ≡ slice_index_or p.down k false
  pub rest : are_in_order from (drop p.passed events) ≡ true
