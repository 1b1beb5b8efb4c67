use Rattle.std.proofs.Common.{◌≡◌, ◌≤◌, ◌++◌, length, map}
use Rattle.chip_asm.specs.declared.limits.TheConstants.{MOST_LINES}
use Rattle.chip_lang.specs.Line.{reading_of}
use Rattle.chip_asm.specs.Lines.{lines_of}
use Rattle.chip_asm.specs.inner.HeldText.{IsBack}
use Rattle.chip_asm.specs.inner.Infos.{AreInfos}
use Rattle.chip_asm.specs.inner.Records.{readings_in, texts_in}
use Rattle.chip_asm.proofs.CutSteps.{AllShort}
use Rattle.chip_asm.proofs.cut.read_lines.Given as goal

abbrev pub invariant-loop-source : goal.invariant-loop-source
invariant-loop-source l =
    (texts_in l.lines.items ++ lines_of l.rest ≡ lines_of l.fn.source.items)
    × (readings_in l.lines.items ≡ map reading_of (texts_in l.lines.items))
    × AllShort (texts_in l.lines.items)
    × (length l.lines.items ≤ MOST_LINES)
    × (l.meter.parsed ≡ length l.lines.items)
    × (l.meter.encoded ≡ 0)
    × IsBack l.rest l.fn.source.items
    × AreInfos l.table.keys l.lines.items
    × (l.table.symbols ≡ l.fn.table.symbols)

abbrev pub decreases-loop-source : goal.decreases-loop-source
decreases-loop-source l = length l.rest
