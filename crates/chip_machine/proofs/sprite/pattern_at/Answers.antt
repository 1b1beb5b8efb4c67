use Rattle.std.proofs.Common.{arith, ◌∙◌}
use Rattle.chip_machine.proofs.RowLemmas.{pattern_low, pattern_narrow, pattern_wide}
use Rattle.chip_machine.proofs.sprite.pattern_at.Goals as goal

pub returns-then-not-high : goal.returns-then-not-high
returns-then-not-high c = pattern_low c.args.sprite.now c.args.row c.args.high c.doubled.result c.byte_at.result c.if-not-high.true c.byte_at.ensures c.doubled.ensures

pub returns-then-sprite-eq-SPRITE_BYTES : goal.returns-then-sprite-eq-SPRITE_BYTES
returns-then-sprite-eq-SPRITE_BYTES c =
    pattern_wide c.args.sprite.now c.args.row c.args.high c.from.result c.from-then-sprite-eq-SPRITE_BYTES.result c.if-not-high.false c.if-sprite-eq-SPRITE_BYTES.true
    (omega (arith, c.from.ensures)) (omega (arith, c.from-then-sprite-eq-SPRITE_BYTES.ensures))
    (c.from.ensures ∙ c.byte_at-then-sprite-eq-SPRITE_BYTES.ensures) (c.from-then-sprite-eq-SPRITE_BYTES.ensures ∙ c.byte_at-then-sprite-eq-SPRITE_BYTES-2.ensures)

pub returns-else-sprite-eq-SPRITE_BYTES : goal.returns-else-sprite-eq-SPRITE_BYTES
returns-else-sprite-eq-SPRITE_BYTES c =
    pattern_narrow c.args.sprite.now c.args.row c.args.high c.from-else-sprite-eq-SPRITE_BYTES.result c.if-not-high.false c.if-sprite-eq-SPRITE_BYTES.false
    (omega (arith, c.from-else-sprite-eq-SPRITE_BYTES.ensures)) (c.from-else-sprite-eq-SPRITE_BYTES.ensures ∙ c.byte_at-else-sprite-eq-SPRITE_BYTES.ensures)
