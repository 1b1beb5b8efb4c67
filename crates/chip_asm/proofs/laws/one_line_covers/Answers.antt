use Rattle.std.proofs.Common.{map}
use Rattle.chip_lang.specs.Line.{reading_of}
use Rattle.chip_asm.proofs.LinesApart.{one-covers}
use Rattle.chip_asm.proofs.laws.one_line_covers.Goals as goal

pub returns : goal.returns
returns c texts address = one-covers (map reading_of texts) address
