use Rattle.std.proofs.Common.{◌≡◌, ℕ, ◌<◌, get_or}
use Rattle.chip_facts.specs.declared.table.Left.{Left}
use Rattle.chip_facts.proofs.facts.Facts.excludes.Given as goal

abbrev pub invariant-loop-left : goal.invariant-loop-left
invariant-loop-left l = (k : ℕ) (d : Left) → k < l.left-index → (get_or l.self.left.items k d).stop ≡ l.stop → ⊥
