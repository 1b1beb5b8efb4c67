use Rattle.std.proofs.Common.{◌%◌, ◌*◌, ◌/◌, ◌^◌, ◌+◌, ◌≤◌, ap, subst, ◌∙◌}
use Rattle.chip_machine.specs.inner.SpriteBytes.{LiesIn}
use Rattle.chip_machine.proofs.BitLemmas.{placed_right, placed_within}
use Rattle.chip_machine.proofs.sprite.placed.Goals as goal

pub returns-in-Left : goal.returns-in-Left
returns-in-Left c =
    let within : c.args.start + 16 ≤ 64 = subst (λ h. LiesIn h c.args.start) c.in-Left.is c.requires.half in
    ap (λ n. n * 2 ^ 64 % 2 ^ 128) (c.from-in-Left.ensures ∙ ap (λ n. n * 2 ^ 48 % 2 ^ 64 / 2 ^ (c.args.start % 64)) c.from.ensures)
    ∙ placed_within c.args.columns c.args.start c.ranges.columns.fits within

pub returns-in-Right : goal.returns-in-Right
returns-in-Right c =
    let right : 64 ≤ c.args.start = subst (λ h. LiesIn h c.args.start) c.in-Right.is c.requires.half in
    ap (λ n. n * 2 ^ 48 % 2 ^ 128 / 2 ^ (c.args.start % 64)) c.from-in-Right.ensures
    ∙ placed_right c.args.columns c.args.start c.ranges.columns.fits right c.requires.on_screen
