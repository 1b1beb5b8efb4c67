use Rattle.std.proofs.Common.{ℕ, ◌-◌, ◌<◌, ◌+◌}
use Rattle.chip_facts.specs.Sets.{Holds}
use Rattle.chip_facts.specs.inner.Indexes.{HoldsIndex}
use Rattle.chip_facts.proofs.index_set.sums.Given as goal

abbrev pub invariant-loop-at : goal.invariant-loop-at
invariant-loop-at l = record {
  past : Holds l.index 4096 → Holds l.set 4096;
  low : Holds l.index 4096 → (n : ℕ) → n < 255 → Holds l.set n;
  sums : (i : ℕ) → i < l.at → Holds l.index i → (b : ℕ) → b < 256 → Holds l.values b → HoldsIndex l.set (i + b);
}

abbrev pub decreases-loop-at : goal.decreases-loop-at
decreases-loop-at l = 4096 - l.at
