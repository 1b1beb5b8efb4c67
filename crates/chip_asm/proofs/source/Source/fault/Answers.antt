use Rattle.std.proofs.Common.{◌≡◌, ◌∙◌, ◌-◌, Some, None, ap, false, map, nat_eq, rules, ne_eqb, slice_get, sym}
use Rattle.std.proofs.lemmas.Option.{slice_get-get_or, slice_get_past}
use Rattle.chip_lang.specs.Line.{reading_of}
use Rattle.chip_asm.specs.Program.{fault_at}
use Rattle.chip_asm.proofs.Views.{layout-view}
use Rattle.chip_asm.proofs.WholeImage.{fault-there}
use Rattle.chip_asm.proofs.source.Source.fault.Goals as goal

pub returns-then-number-eq0 : goal.returns-then-number-eq0
unfolding fault_at
returns-then-number-eq0 c = search rules

pub returns-in-Some : goal.returns-in-Some
unfolding fault_at
returns-in-Some c =
    let found = c.in-Some.ensures.lookup in
    let not_zero : nat_eq c.args.number 0 ≡ false = ne_eqb c.args.number 0 c.if-number-eq0.false in
    let laid = layout-view c.self.inside.kept c.args.self.now.lines c.self.invariant (ap (λ t. t.lines) c.self.view_is) in
    rw (not_zero, c.fault.ensures)
    (fault-there c.self.inside.kept.layout (map reading_of c.args.self.now.lines) (c.args.number - 1) (Some c.in-Some.placement.now) laid
    (ap (λ qs. slice_get qs (c.args.number - 1)) (sym c.deref.ensures.value) ∙ slice_get-get_or c.deref.result.now (c.args.number - 1) c.in-Some.placement.now found.3.0 ∙ ap Some (sym found.1)))

pub returns-in-None : goal.returns-in-None
unfolding fault_at
returns-in-None c =
    let not_zero : nat_eq c.args.number 0 ≡ false = ne_eqb c.args.number 0 c.if-number-eq0.false in
    let laid = layout-view c.self.inside.kept c.args.self.now.lines c.self.invariant (ap (λ t. t.lines) c.self.view_is) in
    rw not_zero
    (fault-there c.self.inside.kept.layout (map reading_of c.args.self.now.lines) (c.args.number - 1) None laid
    (ap (λ qs. slice_get qs (c.args.number - 1)) (sym c.deref.ensures.value) ∙ slice_get_past c.deref.result.now (c.args.number - 1) c.in-None.ensures.lookup.3))
