use Rattle.std.proofs.Common.{◌+◌, ◌-◌, ◌<◌, ◌∙◌, Bool, set, ap, arith, length, length-set, not, None, sym, subst}
use Rattle.std.specs.Option.{option_eq}
use Rattle.std.specs.Ordering.{int_eq}
use Rattle.std.proofs.lemmas.List.{get_or_default}
use Rattle.std.proofs.lemmas.List.Sums.{count_by-le-length}
use Rattle.chip_symbols.specs.inner.Entries.{ValueLists}
use Rattle.chip_symbols.proofs.ValueSteps.{compared-set, count-set}
use Rattle.chip_symbols.proofs.values.Values.set.Goals as goal
use Rattle.chip_symbols.proofs.values.Values.set.Goals.{After-self}

within : (c : After-self) → c.args.number < length c.self.inside.current.items
within c = subst (λ (v : ValueLists). c.args.number < length v.current) (sym c.self.view_is) c.requires

pub overflow_add-self : goal.overflow_add-self
overflow_add-self c =
    let h : c.args.number < length c.self.inside.current.items = within (goal.at.overflow_add-self c).After-self in
    let counted = count-set _ _ _ _ c.args.number (c.self.inside.different - c.one_of.result + c.one_of-2.result) c.index-2.result.now c.ne-differs.result c.self.invariant h c.index-2.ensures (omega (arith, c.one_of.ensures, c.one_of-2.ensures)) in
    omega (arith, counted, count_by-le-length (λ (b : Bool). b) (set c.self.inside.differs.items c.args.number c.ne-differs.result), length-set c.self.inside.differs.items c.args.number c.ne-differs.result, c.self.inside.differs.ok.0, c.self.ranges)

pub invariant_of-self : goal.invariant_of-self
invariant_of-self c =
    let h : c.args.number < length c.self.inside.current.items = within (goal.at.invariant_of-self c).After-self in
    compared-set _ _ _ _ c.args.number _ c.args.value c.index-2.result.now c.ne-differs.result c.self.invariant h c.index-2.ensures
    (c.ne-differs.ensures ∙ ap (λ v. not (option_eq int_eq v c.args.value)) (c.index.ensures ∙ get_or_default _ c.args.number c.index.result.now None (omega (arith, h, c.self.invariant.long))))
    (omega (arith, c.one_of.ensures, c.one_of-2.ensures))
