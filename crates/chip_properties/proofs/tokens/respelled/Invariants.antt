use Rattle.std.proofs.Common.{◌≡◌, ◌++◌, length}
use Rattle.chip_properties.specs.Tokens.{respelled}
use Rattle.chip_properties.proofs.tokens.respelled.Given as goal

abbrev pub invariant-loop-first : goal.invariant-loop-first
invariant-loop-first l = l.bytes.items ++ respelled l.rest ≡ respelled l.text

abbrev pub decreases-loop-first : goal.decreases-loop-first
decreases-loop-first l = length l.rest
