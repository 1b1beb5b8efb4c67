use Rattle.chip_views.proofs.DataLines.{word_line, byte_line}
use Rattle.chip_views.proofs.laws.data_lines.Goals as goal

pub returns : goal.returns
returns c = record { word = word_line; byte = byte_line }
