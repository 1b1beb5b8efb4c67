use Rattle.std.proofs.Common.{◌≡◌, ◌^◌, ◌*◌, ◌%◌, ◌∙◌, false, length, sym, subst, ⊎_elim}
use Rattle.std.proofs.lemmas.Bool.{false≢true}
use Rattle.chip_machine.proofs.StripeLemmas.{IsWidePattern, pattern_put, pattern_twice}
use Rattle.chip_machine.proofs.sprite.wide_pattern_at.Goals as goal

pub returns-then-sprite-ne-SPRITE_BYTES : goal.returns-then-sprite-ne-SPRITE_BYTES
returns-then-sprite-ne-SPRITE_BYTES c =
    let narrow : c.args.high ≡ false → length c.args.sprite.now ≡ 32 → ⊥ = λ low long. ⊎_elim (λ high. absurd (false≢true (sym low ∙ high))) (λ other. absurd (other.1 long)) c.if-sprite-ne-SPRITE_BYTES.either in
    subst (λ n. IsWidePattern (n * 2 ^ 16 % 2 ^ 32) c.args.high c.args.sprite.now c.args.row) (sym c.from.ensures)
    (pattern_put c.args.high c.args.sprite.now c.args.row c.pattern_at.result c.pattern_at.type_inv narrow c.pattern_at.ensures)

pub returns-else-sprite-ne-SPRITE_BYTES : goal.returns-else-sprite-ne-SPRITE_BYTES
returns-else-sprite-ne-SPRITE_BYTES c =
    rw (c.from-else-sprite-ne-SPRITE_BYTES.ensures, c.from-else-sprite-ne-SPRITE_BYTES-2.ensures)
    (pattern_twice c.args.high c.args.sprite.now c.args.row c.doubled-first.result c.doubled-second.result c.byte_at.result c.byte_at-else-sprite-ne-SPRITE_BYTES.result
    c.if-sprite-ne-SPRITE_BYTES.false.0 c.if-sprite-ne-SPRITE_BYTES.false.1 c.doubled-first.type_inv c.doubled-second.type_inv
    c.doubled-first.ensures c.doubled-second.ensures c.byte_at.ensures c.byte_at-else-sprite-ne-SPRITE_BYTES.ensures)
