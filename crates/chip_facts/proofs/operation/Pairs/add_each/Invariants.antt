use Rattle.std.proofs.Common.{◌≡◌, ℕ, ◌-◌, ◌<◌}
use Rattle.chip_facts.specs.Sets.{Holds}
use Rattle.chip_facts.specs.inner.Operations.{value_of, flag_of, IsMade}
use Rattle.chip_facts.proofs.operation.Pairs.add_each.Given as goal

abbrev pub invariant-loop-a : goal.invariant-loop-a
invariant-loop-a l = record {
  kept : (v b : ℕ) → IsMade l.initial.self v b → IsMade l.self v b;
  added : (a : ℕ) → a < l.a → Holds l.firsts a
      → flag_of l.operation a l.second ≡ l.flag → IsMade l.self (value_of l.operation a l.second) l.second;
}

abbrev pub decreases-loop-a : goal.decreases-loop-a
decreases-loop-a l = 256 - l.a
