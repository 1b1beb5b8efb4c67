use Rattle.std.proofs.Common.{◌∙◌, ◌++◌, ap}
use Rattle.chip_check.specs.Check.{tildes_of}
use Rattle.chip_check.proofs.Pieces.{no_more, one_more}
use Rattle.chip_check.proofs.report.push_tildes.Goals as goal

pub loop-byte-preserved : goal.loop-byte-preserved
loop-byte-preserved c =
    one_more tildes_of c.args.text.now.items c.loop-byte.text.items c.args.shown.now c.loop-byte.byte-index _ _
    c.loop-byte-test.true c.loop-byte.invariant (c.in_ok-extend_from_slice.ensures.items ∙ ap (λ text. c.loop-byte.text.items ++ text) c.tildes_of.ensures)

pub returns : goal.returns
returns c =
    no_more tildes_of c.args.text.now.items c.loop-byte.text.items c.args.shown.now c.loop-byte.byte-index
    c.loop-byte-test.false c.loop-byte.invariant
