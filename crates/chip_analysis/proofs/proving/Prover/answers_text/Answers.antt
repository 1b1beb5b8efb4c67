use Rattle.std.proofs.Common.{[]}
use Rattle.chip_check.proofs.Pieces.{no_more, one_more}
use Rattle.chip_analysis.specs.inner.Proofs.{printed_head}
use Rattle.chip_analysis.proofs.proving.Prover.answers_text.Goals as goal

pub loop-head-preserved : goal.loop-head-preserved
loop-head-preserved g c =
    let p = c.args.self.now in
    one_more (printed_head p.arguments.now p.source.now.lines c.args.verdict.now) [] c.loop-head.text.items c.args.heads.now c.loop-head.head-index _ _
    c.loop-head-test.true c.loop-head.invariant (rw (c.as_bytes.ensures.value, c.text_at.ensures) at c.in_ok-push.ensures)

pub returns : goal.returns
returns g c =
    let piece = printed_head c.args.self.now.arguments.now c.args.self.now.source.now.lines c.args.verdict.now in
    no_more piece [] c.loop-head.text.items c.args.heads.now c.loop-head.head-index c.loop-head-test.false c.loop-head.invariant
