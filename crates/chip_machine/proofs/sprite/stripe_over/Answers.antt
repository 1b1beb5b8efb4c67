use Rattle.chip_machine.proofs.StripeLemmas.{stripe_above, stripe_around, stripe_inside}
use Rattle.chip_machine.proofs.sprite.stripe_over.Goals as goal

pub returns-then-wraps : goal.returns-then-wraps
returns-then-wraps c = λ column at on_screen low up.
    stripe_around c.args.x c.args.y c.args.sprite.now c.row_bits.result column at c.args.line on_screen
    c.args.wraps c.args.high c.scale_of-scale.result c.scale_of-scale.ensures.value low up
    c.around.result c.if-wraps.true c.row_bits.ensures (c.around.ensures column on_screen)

pub returns-then-line-top : goal.returns-then-line-top
returns-then-line-top c = λ column at on_screen low up.
    stripe_above c.args.x c.args.y c.args.sprite.now 0 column at c.args.line on_screen
    c.args.wraps c.args.high c.scale_of-scale.result c.scale_of-scale.ensures.value low up
    c.if-wraps.false c.if-line-top.true

pub returns-else-line-top : goal.returns-else-line-top
returns-else-line-top c = λ column at on_screen low up.
    stripe_inside c.args.x c.args.y c.args.sprite.now c.row_bits-else-line-top.result column at c.args.line on_screen
    c.args.wraps c.args.high c.scale_of-scale.result c.scale_of-scale.ensures.value low up
    c.if-wraps.false c.row_bits-else-line-top.type_inv c.if-line-top.false c.row_bits-else-line-top.ensures
