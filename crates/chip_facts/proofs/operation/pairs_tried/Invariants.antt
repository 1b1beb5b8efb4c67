use Rattle.std.proofs.Common.{◌≡◌, ℕ, ◌-◌, ◌<◌, true}
use Rattle.chip_facts.specs.Sets.{Holds}
use Rattle.chip_facts.specs.inner.Operations.{value_of, flag_of, IsMade}
use Rattle.chip_facts.proofs.operation.pairs_tried.Given as goal

abbrev pub invariant-loop-b : goal.invariant-loop-b
invariant-loop-b l = (b : ℕ) → b < l.b → Holds l.seconds b → (a : ℕ) → a < 256 → Holds l.firsts a
    → (l.same ≡ true → a ≡ b) → flag_of l.operation a b ≡ l.flag → IsMade l.made (value_of l.operation a b) b

abbrev pub decreases-loop-b : goal.decreases-loop-b
decreases-loop-b l = 256 - l.b
