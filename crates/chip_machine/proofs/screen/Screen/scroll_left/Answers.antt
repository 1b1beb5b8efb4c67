use Rattle.std.proofs.Common.{arith, ap, ◌∙◌}
use Rattle.std.proofs.lemmas.List.{with_items_is}
use Rattle.chip_machine.specs.inner.Stored.{in_rows}
use Rattle.chip_machine.specs.Scroll.{scrolled_left}
use Rattle.chip_machine.proofs.RowLemmas.{in_rows-scrolled_left}
use Rattle.chip_machine.proofs.screen.Screen.scroll_left.Goals as goal

pub returns : goal.returns
returns c =
    ap in_rows (with_items_is c.self.inside.rows c.to_the_left.new.rows (omega arith))
    ∙ in_rows-scrolled_left c.args.columns c.deref_mut.result.now c.to_the_left.new.rows (λ row h. c.to_the_left.ensures row (omega arith))
    ∙ ap (λ rows. scrolled_left c.args.columns (in_rows rows)) c.deref_mut.ensures.value
    ∙ ap (scrolled_left c.args.columns) c.self.view_is
