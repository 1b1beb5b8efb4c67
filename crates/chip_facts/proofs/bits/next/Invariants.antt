use Rattle.std.proofs.Common.{◌≡◌, ℕ, ◌≤◌, ◌<◌, ◌/◌, false}
use Rattle.chip_facts.specs.Sets.{has}
use Rattle.chip_facts.proofs.bits.next.Given as goal

abbrev pub invariant-loop-i : goal.invariant-loop-i
invariant-loop-i l = (n : ℕ) → l.from ≤ n → n / 64 < l.i → has l.words n ≡ false
