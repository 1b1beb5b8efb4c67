use Rattle.std.proofs.Common.{◌≡◌, ℕ, ◌<◌, ◌≤◌, min, slice_index}
use Rattle.chip_machine.proofs.touch.note_all.Given as goal

abbrev pub invariant-loop-known : goal.invariant-loop-known
invariant-loop-known l =
    record {
      done : (k : ℕ) → k < l.known-index → slice_index l.part k ≡ min (slice_index l.initial.part k) l.number;
      rest : (k : ℕ) → l.known-index ≤ k → slice_index l.part k ≡ slice_index l.initial.part k;
    }
