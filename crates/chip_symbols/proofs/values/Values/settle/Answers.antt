use Rattle.std.proofs.Common.{◌∙◌, ap, arith, sym}
use Rattle.chip_symbols.specs.inner.Entries.{ValueLists}
use Rattle.chip_symbols.proofs.ValueSteps.{all-same}
use Rattle.chip_symbols.proofs.values.Values.settle.Goals as goal

pub returns-else-self-gt0-clause-past : goal.returns-else-self-gt0-clause-past
returns-else-self-gt0-clause-past c =
    sym (ap (λ (v : ValueLists). v.past) c.self.view_is) ∙ all-same _ _ _ _ c.self.invariant (omega (arith, c.if-self-gt0.false)) ∙ ap (λ (v : ValueLists). v.current) c.self.view_is
