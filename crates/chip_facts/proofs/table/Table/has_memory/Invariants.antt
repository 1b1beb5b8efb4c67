use Rattle.std.proofs.Common.{ℕ, ◌<◌, ◌≤◌, ◌*◌, ◌+◌, get_or}
use Rattle.chip_facts.specs.Sets.{Holds}
use Rattle.chip_facts.proofs.table.Table.has_memory.Given as goal

abbrev pub invariant-loop-at : goal.invariant-loop-at
invariant-loop-at l = (at : ℕ) → at < l.at → Holds l.self.memory.items (256 * at + get_or l.memory at 0)

abbrev pub invariant-loop-at-2 : goal.invariant-loop-at-2
invariant-loop-at-2 l = (at : ℕ) → 4096 ≤ at → at < l.at → Holds l.self.memory.items (256 * at)
