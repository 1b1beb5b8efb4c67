use Rattle.std.proofs.Common.{arith, ap, ◌∙◌}
use Rattle.std.proofs.lemmas.List.{with_items_is}
use Rattle.chip_machine.specs.Points.{symmetric_difference, meets}
use Rattle.chip_machine.specs.inner.Stored.{in_rows}
use Rattle.chip_machine.specs.inner.SpriteBytes.{covered_by_bytes, covers}
use Rattle.chip_machine.proofs.RowLemmas.{toggled_rows, hit_rows}
use Rattle.chip_machine.proofs.screen.Screen.draw.Goals as goal

pub returns-clause-lit : goal.returns-clause-lit
returns-clause-lit c =
    let cover = covered_by_bytes c.args.wraps c.args.high c.args.x c.args.y c.args.sprite.now in
    ap in_rows (with_items_is c.self.inside.rows c.toggle.new.rows (omega arith))
    ∙ toggled_rows c.deref_mut.result.now c.toggle.new.rows (covers c.args.wraps c.args.high c.args.x c.args.y c.args.sprite.now) c.toggle.result c.toggle.ensures
    ∙ ap (λ rows. symmetric_difference (in_rows rows) cover) c.deref_mut.ensures.value
    ∙ ap (λ s. symmetric_difference s cover) c.self.view_is

pub returns-clause-hit : goal.returns-clause-hit
returns-clause-hit c =
    let cover = covered_by_bytes c.args.wraps c.args.high c.args.x c.args.y c.args.sprite.now in
    hit_rows c.deref_mut.result.now c.toggle.new.rows (covers c.args.wraps c.args.high c.args.x c.args.y c.args.sprite.now) c.toggle.result c.toggle.ensures
    ∙ ap (λ rows. meets (in_rows rows) cover) c.deref_mut.ensures.value
    ∙ ap (λ s. meets s cover) c.self.view_is
