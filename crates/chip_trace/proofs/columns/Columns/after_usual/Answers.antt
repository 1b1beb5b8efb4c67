use Rattle.chip_trace.proofs.Usual.{after_get}
use Rattle.chip_trace.proofs.columns.Columns.after_usual.Goals as goal

pub returns : goal.returns
returns c =
    rw (← c.self.view_is) (after_get c.self.inside.columns.items c.get.result (c.self.invariant c.if-not-self.false) (rw c.deref.ensures.value at c.get.ensures.lookup))
