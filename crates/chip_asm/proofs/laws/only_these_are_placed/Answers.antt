use Rattle.chip_asm.proofs.PlacesAgree.{only}
use Rattle.chip_asm.proofs.laws.only_these_are_placed.Goals as goal

pub returns : goal.returns
returns c lines all placed = only lines all placed
