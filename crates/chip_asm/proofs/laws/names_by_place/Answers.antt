use Rattle.chip_lang.specs.Line.{reading_of}
use Rattle.std.proofs.Common.{map}
use Rattle.chip_asm.proofs.ImageByPlace.{names-given}
use Rattle.chip_asm.proofs.laws.names_by_place.Goals as goal

pub returns : goal.returns
unfolding Rattle.chip_asm.specs.Program.symbols_of
returns c texts all placed = names-given (map reading_of texts) all placed
