use Rattle.std.proofs.Common.{◌≡◌, length}
use Rattle.chip_check.specs.Place.{tokens_after}
use Rattle.chip_check.proofs.place.tokens_after.Given as goal

abbrev pub decreases-loop-rest : goal.decreases-loop-rest
decreases-loop-rest l = length l.rest

abbrev pub invariant-loop-rest : goal.invariant-loop-rest
invariant-loop-rest l = tokens_after l.place l.rest ≡ tokens_after l.place l.tokens
