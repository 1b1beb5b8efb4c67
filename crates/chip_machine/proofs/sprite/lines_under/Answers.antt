use Rattle.std.proofs.Common.{◌*◌, ◌%◌, ◌/◌, ◌<◌, ap, subst}
use Rattle.chip_machine.specs.Sprite.{scale}
use Rattle.chip_machine.proofs.SpriteLemmas.{covers_before, covers_after, lines_on_screen}
use Rattle.chip_machine.proofs.sprite.lines_under.Goals as goal

pub returns-clause-first : goal.returns-clause-first
returns-clause-first c = ap (λ s. c.args.y % (64 / s)) c.scale_of-height.ensures.value

pub returns-clause-on_screen : goal.returns-clause-on_screen
returns-clause-on_screen c =
    lines_on_screen c.args.high c.args.y _ _ c.scale_of-height.result c.scale_of-height.ensures.value c.min.ensures

pub returns-clause-above : goal.returns-clause-above
returns-clause-above c = λ x column row before.
    covers_before c.args.high x c.args.y c.args.sprite.now column row (subst (λ s. row < scale c.args.high * (c.args.y % (64 / s))) c.scale_of-height.ensures.value before)

pub returns-clause-below : goal.returns-clause-below
returns-clause-below c = λ x column row after on_screen.
    covers_after c.args.high x c.args.y c.args.sprite.now column row _ c.rows_of.result c.scale_of-height.result on_screen c.rows_of.ensures
    c.scale_of-height.ensures.value c.min.ensures after
