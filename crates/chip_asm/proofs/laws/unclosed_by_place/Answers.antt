use Rattle.chip_asm.proofs.PlacesAgree.{unclosed}
use Rattle.chip_asm.proofs.laws.unclosed_by_place.Goals as goal

pub returns : goal.returns
returns c lines i p there = unclosed lines i p there
