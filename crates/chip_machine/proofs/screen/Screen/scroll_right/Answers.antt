use Rattle.std.proofs.Common.{arith, ap, ◌∙◌}
use Rattle.std.proofs.lemmas.List.{with_items_is}
use Rattle.chip_machine.specs.inner.Stored.{in_rows}
use Rattle.chip_machine.specs.Scroll.{scrolled_right}
use Rattle.chip_machine.proofs.RowLemmas.{in_rows-scrolled_right}
use Rattle.chip_machine.proofs.screen.Screen.scroll_right.Goals as goal

pub returns : goal.returns
returns c =
    ap in_rows (with_items_is c.self.inside.rows c.to_the_right.new.rows (omega arith))
    ∙ in_rows-scrolled_right c.args.columns c.deref_mut.result.now c.to_the_right.new.rows (omega arith) c.to_the_right.ensures.bits (λ row h. c.to_the_right.ensures.moved row (omega arith))
    ∙ ap (λ rows. scrolled_right c.args.columns (in_rows rows)) c.deref_mut.ensures.value
    ∙ ap (scrolled_right c.args.columns) c.self.view_is
