use Rattle.std.proofs.Common.{◌≡◌, ◌+◌, ◌++◌, length}
use Rattle.chip_check.specs.Quoted.{shown_after}
use Rattle.chip_check.proofs.quoted.shown_bytes.Given as goal

abbrev pub decreases-loop-rest : goal.decreases-loop-rest
decreases-loop-rest l = length l.rest

abbrev pub invariant-loop-rest : goal.invariant-loop-rest
invariant-loop-rest l = record {
  bytes : l.shown.items ++ shown_after 0 l.rest ≡ shown_after 0 l.line;
  length : length l.shown.items + length l.rest ≡ length l.line;
}
