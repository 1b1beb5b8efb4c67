use Rattle.std.proofs.Common.{◌≡◌, drop}
use Rattle.chip_check.specs.inner.Known.{listed}
use Rattle.chip_check.specs.Place.{first_unknown}
use Rattle.chip_check.proofs.place.first_unknown.Given as goal

abbrev pub invariant-loop-token : goal.invariant-loop-token
invariant-loop-token l =
    first_unknown (listed l.known.symbols.entries) l.last l.line l.place (drop l.token-index l.tokens)
    ≡ first_unknown (listed l.known.symbols.entries) l.last l.line l.place l.tokens
