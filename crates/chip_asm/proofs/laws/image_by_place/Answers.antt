use Rattle.chip_lang.specs.Line.{reading_of}
use Rattle.std.proofs.Common.{map}
use Rattle.chip_asm.proofs.ImageByPlace.{image-given}
use Rattle.chip_asm.proofs.laws.image_by_place.Goals as goal

pub returns : goal.returns
unfolding Rattle.chip_asm.specs.Program.image_of
returns c texts bytes all is placed = image-given (map reading_of texts) bytes all is placed
