use Rattle.chip_symbols.proofs.ValueSteps.{compared-more}
use Rattle.chip_symbols.proofs.values.Values.add.Goals as goal

pub invariant_of-self : goal.invariant_of-self
invariant_of-self c = rw (c.push_reserved.ensures.items, c.push_reserved-2.ensures.items, c.push_reserved-3.ensures.items) (compared-more _ _ _ _ c.self.invariant)
