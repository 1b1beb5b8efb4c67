use Rattle.std.proofs.Common.{map}
use Rattle.chip_lang.specs.Line.{reading_of}
use Rattle.chip_asm.specs.Program.{symbols_of}
use Rattle.chip_asm.proofs.LinesApart.{names-differ}
use Rattle.chip_asm.proofs.laws.names_differ.Goals as goal

pub returns : goal.returns
unfolding symbols_of
returns c texts = names-differ (map reading_of texts)
