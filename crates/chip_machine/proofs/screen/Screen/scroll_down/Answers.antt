use Rattle.std.proofs.Common.{arith, ap, ◌∙◌}
use Rattle.std.proofs.lemmas.List.{with_items_is}
use Rattle.chip_machine.specs.inner.Stored.{in_rows}
use Rattle.chip_machine.specs.Scroll.{scrolled_down}
use Rattle.chip_machine.proofs.RowLemmas.{in_rows-scrolled_down}
use Rattle.chip_machine.proofs.screen.Screen.scroll_down.Goals as goal

pub returns : goal.returns
returns c =
    ap in_rows (with_items_is c.self.inside.rows c.lower.new.rows (omega arith))
    ∙ in_rows-scrolled_down c.args.rows c.deref_mut.result.now c.lower.new.rows c.lower.ensures.moved c.lower.ensures.entered
    ∙ ap (λ rows. scrolled_down c.args.rows (in_rows rows)) c.deref_mut.ensures.value
    ∙ ap (scrolled_down c.args.rows) c.self.view_is
