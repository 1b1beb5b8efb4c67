use Rattle.std.proofs.Common.{ℕ, ◌-◌, ◌<◌, ◌+◌}
use Rattle.chip_facts.specs.Sets.{Holds}
use Rattle.chip_facts.specs.inner.Indexes.{HoldsIndex}
use Rattle.chip_facts.proofs.index_set.add_sums.Given as goal

abbrev pub invariant-loop-b : goal.invariant-loop-b
invariant-loop-b l = record {
  kept : (n : ℕ) → Holds l.initial.set n → Holds l.set n;
  sums : (b : ℕ) → b < l.b → Holds l.values b → HoldsIndex l.set (l.at + b);
}

abbrev pub decreases-loop-b : goal.decreases-loop-b
decreases-loop-b l = 256 - l.b
