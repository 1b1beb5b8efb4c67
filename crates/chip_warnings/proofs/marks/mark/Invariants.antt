use Rattle.std.proofs.Common.{◌≡◌, ◌&&◌, ◌||◌, ℕ, nat_le, nat_lt}
use Rattle.chip_warnings.specs.inner.Noted.{flag}
use Rattle.chip_warnings.proofs.marks.mark.Given as goal

abbrev pub invariant-loop-index : goal.invariant-loop-index
invariant-loop-index l =
    (a : ℕ) → flag l.flags a ≡ (flag l.initial.flags a || (nat_le l.first a && nat_lt a l.index))
