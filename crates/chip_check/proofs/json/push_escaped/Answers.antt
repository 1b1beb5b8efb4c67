use Rattle.chip_check.specs.Json.{escaped}
use Rattle.chip_check.proofs.Pieces.{no_more, one_more}
use Rattle.chip_check.proofs.json.push_escaped.Goals as goal

pub loop-byte-preserved : goal.loop-byte-preserved
loop-byte-preserved c =
    one_more escaped c.args.text.now.items c.loop-byte.text.items c.args.bytes.now c.loop-byte.byte-index _ _
    c.loop-byte-test.true c.loop-byte.invariant c.in_ok-push_escaped_byte.ensures

pub returns : goal.returns
returns c =
    no_more escaped c.args.text.now.items c.loop-byte.text.items c.args.bytes.now c.loop-byte.byte-index
    c.loop-byte-test.false c.loop-byte.invariant
