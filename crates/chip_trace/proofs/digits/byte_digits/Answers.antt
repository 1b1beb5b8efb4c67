use Rattle.std.proofs.Common.{◌∙◌}
use Rattle.chip_trace.proofs.DigitLemmas.{two_digits_are}
use Rattle.chip_trace.proofs.digits.byte_digits.Goals as goal

pub returns : goal.returns
returns c = c.byte_digits.ensures ∙ two_digits_are c.args.byte c.ranges.byte.fits
