use Rattle.std.proofs.Common.{sym}
use Rattle.chip_analysis.proofs.covering.Covered.of.Goals as goal

pub returns : goal.returns
returns g c = rw (sym c.rate.ensures.value, sym c.tape.ensures.value, sym c.quirks.ensures, sym c.in_ok-start.ensures) c.from_start.ensures
