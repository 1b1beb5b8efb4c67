use Rattle.std.proofs.Common.{◌≡◌, ℕ, ◌<◌, ◌+◌, ◌*◌, [], length, get_or}
use Rattle.chip_facts.specs.Sets.{Holds}
use Rattle.chip_facts.proofs.transfer.Before.first_sets.Given as goal

abbrev pub invariant-loop-y : goal.invariant-loop-y
invariant-loop-y l = record {
  count : length l.sets.items ≡ l.y;
  each : (y b : ℕ) → y < l.y → b < 256 → Holds l.self.known.registers (256 * y + b) → Holds (get_or l.sets.items y []) b;
}
