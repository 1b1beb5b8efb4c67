use Rattle.std.proofs.Common.{ap, arith, sym, ◌∙◌}
use Rattle.std.proofs.lemmas.Bool.{ltb-false}
use Rattle.chip_symbols.specs.inner.Entries.{ValueLists}
use Rattle.chip_symbols.proofs.ValueSteps.{all-same}
use Rattle.chip_symbols.proofs.values.Values.has_differences.Goals as goal

pub returns : goal.returns
returns c = λ few.
    sym (ap (λ (v : ValueLists). v.past) c.self.view_is) ∙ all-same _ _ _ _ c.self.invariant (let none = ltb-false 0 c.self.inside.different few in omega (arith, none)) ∙ ap (λ (v : ValueLists). v.current) c.self.view_is
