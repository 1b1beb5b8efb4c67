use Rattle.std.proofs.Common.{ℕ, ◌<◌, ◌/◌}
use Rattle.chip_facts.specs.Sets.{Holds}
use Rattle.chip_facts.proofs.byte_set.unite.Given as goal

abbrev pub invariant-loop-i : goal.invariant-loop-i
invariant-loop-i l = record {
  others : (b : ℕ) → Holds l.initial.set b → Holds l.set b;
  there : (b : ℕ) → b / 64 < l.i → Holds l.other b → Holds l.set b;
}
