use Rattle.std.proofs.Common.{◌≡◌, ℕ, ◌<◌, false, slice_index_or, length}
use Rattle.chip_replay.specs.Keys.{is_down}
use Rattle.chip_replay.proofs.keys.Keys.down_in.Given as goal

abbrev pub invariant-loop-key : goal.invariant-loop-key
invariant-loop-key l =
    record {
      size : length l.down ≡ 16;
      set : (k : ℕ) → k < l.key → slice_index_or l.down k false ≡ is_down l.self k l.step;
    }
