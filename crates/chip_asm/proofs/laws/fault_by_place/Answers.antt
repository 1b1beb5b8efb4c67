use Rattle.chip_lang.specs.Line.{reading_of}
use Rattle.std.proofs.Common.{map}
use Rattle.chip_asm.proofs.ImageByPlace.{fault-given}
use Rattle.chip_asm.proofs.laws.fault_by_place.Goals as goal

pub returns : goal.returns
unfolding Rattle.chip_asm.specs.Program.fault_at
returns c texts all i p placed at = fault-given (map reading_of texts) all i p placed at
