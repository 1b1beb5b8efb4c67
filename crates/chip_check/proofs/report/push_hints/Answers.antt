use Rattle.std.proofs.Common.{◌∙◌, ◌++◌, ap}
use Rattle.chip_check.specs.Check.{hint_line}
use Rattle.chip_check.proofs.Pieces.{no_more, one_more}
use Rattle.chip_check.proofs.report.push_hints.Goals as goal

pub loop-hint-preserved : goal.loop-hint-preserved
loop-hint-preserved c =
    one_more (hint_line c.args.is_painted) c.args.text.now.items c.loop-hint.text.items c.args.hints.now c.loop-hint.hint-index _ _
    c.loop-hint-test.true c.loop-hint.invariant
    (c.in_ok-push_hint.ensures ∙ ap (λ hint. c.loop-hint.text.items ++ hint_line c.args.is_painted hint) c.hint-item.is)

pub returns : goal.returns
returns c =
    no_more (hint_line c.args.is_painted) c.args.text.now.items c.loop-hint.text.items c.args.hints.now c.loop-hint.hint-index
    c.loop-hint-test.false c.loop-hint.invariant
