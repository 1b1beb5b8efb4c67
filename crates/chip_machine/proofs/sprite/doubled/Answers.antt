use Rattle.chip_machine.proofs.BitLemmas.{bit_at-doubled}
use Rattle.chip_machine.proofs.sprite.doubled.Goals as goal

pub returns : goal.returns
returns c = λ k within. bit_at-doubled c.args.byte k c.ranges.byte.fits within
