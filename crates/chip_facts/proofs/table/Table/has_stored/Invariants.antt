use Rattle.std.proofs.Common.{ℕ, ◌-◌, ◌<◌, ◌+◌, ◌*◌, [], length, get_or}
use Rattle.chip_facts.specs.Sets.{Holds}
use Rattle.chip_facts.proofs.table.Table.has_stored.Given as goal

abbrev pub invariant-loop-from : goal.invariant-loop-from
invariant-loop-from l = (from : ℕ) → from < l.from → Holds l.stored.at from → (place byte : ℕ) → place < length l.stored.values.items
    → Holds (get_or l.stored.values.items place []) byte → (byte < 256) × Holds l.self.memory.items (256 * (from + place) + byte)

abbrev pub invariant-loop-place : goal.invariant-loop-place
invariant-loop-place l = (place byte : ℕ) → place < l.place → Holds (get_or l.stored.values.items place []) byte → (byte < 256) × Holds l.self.memory.items (256 * (l.from + place) + byte)

abbrev pub decreases-loop-from : goal.decreases-loop-from
decreases-loop-from l = 4160 - l.from
