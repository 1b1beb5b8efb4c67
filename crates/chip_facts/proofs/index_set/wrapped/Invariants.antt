use Rattle.std.proofs.Common.{ℕ, ◌<◌}
use Rattle.chip_facts.specs.Sets.{Holds}
use Rattle.chip_facts.proofs.index_set.wrapped.Given as goal

abbrev pub invariant-loop-at : goal.invariant-loop-at
invariant-loop-at l = record {
  past : Holds l.set 4096;
  low : (n : ℕ) → n < l.at → Holds l.set n;
}
