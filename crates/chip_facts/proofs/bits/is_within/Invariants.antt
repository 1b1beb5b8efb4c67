use Rattle.std.proofs.Common.{ℕ, ◌/◌, ◌<◌}
use Rattle.chip_facts.specs.Sets.{Holds}
use Rattle.chip_facts.proofs.bits.is_within.Given as goal

abbrev pub invariant-loop-i : goal.invariant-loop-i
invariant-loop-i l = (n : ℕ) → n / 64 < l.i → Holds l.words n → Holds l.others n
