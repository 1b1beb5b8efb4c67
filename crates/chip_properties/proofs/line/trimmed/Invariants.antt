use Rattle.std.proofs.Common.{◌≡◌, length, reverse}
use Rattle.chip_properties.specs.Lines.{trimmed, without_blanks}
use Rattle.chip_properties.proofs.line.trimmed.Given as goal

abbrev pub invariant-loop-last : goal.invariant-loop-last
invariant-loop-last l = reverse (without_blanks (reverse l.rest)) ≡ trimmed l.bytes

abbrev pub decreases-loop-last : goal.decreases-loop-last
decreases-loop-last l = length l.rest
