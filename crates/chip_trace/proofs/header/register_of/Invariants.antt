use Rattle.std.proofs.Common.{◌≡◌, ℕ, ◌<◌, false}
use Rattle.chip_trace.specs.Header.{is_named}
use Rattle.chip_trace.specs.declared.column.Column.TheVariants.{Register}
use Rattle.chip_trace.proofs.header.register_of.Given as goal

abbrev pub invariant-loop-number : goal.invariant-loop-number
invariant-loop-number l = (k : ℕ) → k < l.number → is_named l.name (Register k) ≡ false
