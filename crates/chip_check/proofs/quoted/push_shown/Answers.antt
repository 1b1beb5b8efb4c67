use Rattle.chip_check.specs.Quoted.{byte_text}
use Rattle.chip_check.proofs.Pieces.{no_more, one_more}
use Rattle.chip_check.proofs.quoted.push_shown.Goals as goal

pub loop-byte-preserved : goal.loop-byte-preserved
loop-byte-preserved c =
    one_more byte_text c.args.text.now.items c.loop-byte.text.items c.args.shown.now c.loop-byte.byte-index _ _
    c.loop-byte-test.true c.loop-byte.invariant c.in_ok-push_byte.ensures

pub returns : goal.returns
returns c =
    no_more byte_text c.args.text.now.items c.loop-byte.text.items c.args.shown.now c.loop-byte.byte-index
    c.loop-byte-test.false c.loop-byte.invariant
