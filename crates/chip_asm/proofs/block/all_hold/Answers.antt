use Rattle.std.proofs.Common.{rules, ◌∙◌, ◌&&◌, ap, sym}
use Rattle.chip_asm.proofs.Resumed.{all-by-last}
use Rattle.chip_asm.proofs.block.all_hold.Goals as goal

pub returns-then-block : goal.returns-then-block
returns-then-block c = λ nearest e n.
    ap (λ l. l && c.in-Some.block.now.holds) (sym c.if-block.true) ∙ all-by-last c.args.blocks.now nearest c.in-Some.block.now e n (search rules)

pub returns-else-block : goal.returns-else-block
returns-else-block c = λ nearest e n.
    c.if-block.false ∙ ap (λ l. l && c.in-Some.block.now.holds) (sym c.if-block.false) ∙ all-by-last c.args.blocks.now nearest c.in-Some.block.now e n (search rules)
