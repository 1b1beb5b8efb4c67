use Rattle.std.proofs.Common.{ℕ, ◌<◌, ◌≤◌, ◌+◌, ◌*◌}
use Rattle.chip_facts.specs.Sets.{Holds}
use Rattle.chip_facts.proofs.transfer.Before.loaded_sets.Given as goal

abbrev pub invariant-loop-y : goal.invariant-loop-y
invariant-loop-y l = record {
  loaded : (y i b : ℕ) → y < l.y → i ≤ 4096 → i + y < 4104 → b < 256 → Holds l.at i → Holds l.self.memory.now (256 * (i + y) + b) → Holds l.known.registers (256 * y + b);
  others : (y b : ℕ) → l.y ≤ y → b < 256 → Holds l.self.known.registers (256 * y + b) → Holds l.known.registers (256 * y + b);
}
