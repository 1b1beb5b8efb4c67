use Rattle.chip_asm.proofs.PlacesAgree.{agree}
use Rattle.chip_asm.proofs.laws.lines_are_placed.Goals as goal

pub returns : goal.returns
returns c lines = agree lines
