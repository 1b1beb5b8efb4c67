use Rattle.std.proofs.Common.{◌-◌, ◌<◌, ◌==◌, length, arith, sym, ap, subst, ◌∙◌, ⊎_elim}
use Rattle.std.proofs.lemmas.List.{get_or_default}
use Rattle.std.proofs.lemmas.Nat.Bits.{shr_and_one}
use Rattle.chip_machine.specs.Points.{IsOnScreen, is_lit, lights}
use Rattle.chip_machine.proofs.PointLemmas.{is_lit-points_where, dark_outside, on_screen-points_where}
use Rattle.chip_machine.proofs.screen.Screen.lit.Goals as goal

pub returns-then-row-lt-HEIGHT-clause-member : goal.returns-then-row-lt-HEIGHT-clause-member
returns-then-row-lt-HEIGHT-clause-member c =
    let inside : c.args.row < length c.self.inside.rows.items = omega (arith, c.self.invariant, c.if-row-lt-HEIGHT.true) in
    ap (λ bit. bit == 1) (shr_and_one c.index.result.now (127 - c.args.column))
    ∙ ap (λ bits. lights bits c.args.column) (c.index.ensures ∙ get_or_default c.self.inside.rows.items c.args.row c.index.result.now 0 inside)
    ∙ sym (is_lit-points_where _ c.args.column c.args.row c.if-column-lt-WIDTH.true c.if-row-lt-HEIGHT.true)
    ∙ ap (λ s. is_lit s c.args.column c.args.row) c.self.view_is

pub returns-else-column-lt-WIDTH-clause-member : goal.returns-else-column-lt-WIDTH-clause-member
returns-else-column-lt-WIDTH-clause-member c =
    sym (dark_outside _ c.args.column c.args.row (λ (p : (c.args.column < 128) × (c.args.row < 64)). ⊎_elim (λ below. omega (arith, below.1, p.1)) (λ right. omega (arith, right, p.0)) c.else-column-lt-WIDTH.either))
    ∙ ap (λ s. is_lit s c.args.column c.args.row) c.self.view_is

pub returns-then-row-lt-HEIGHT-clause-on_screen : goal.returns-then-row-lt-HEIGHT-clause-on_screen
returns-then-row-lt-HEIGHT-clause-on_screen c = subst IsOnScreen c.self.view_is (on_screen-points_where _)

pub returns-else-column-lt-WIDTH-clause-on_screen : goal.returns-else-column-lt-WIDTH-clause-on_screen
returns-else-column-lt-WIDTH-clause-on_screen c = subst IsOnScreen c.self.view_is (on_screen-points_where _)
