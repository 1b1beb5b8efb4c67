use Rattle.std.proofs.Common.{◌≡◌, ◌≤◌, ◌+◌, ◌-◌, ◌/◌, ◌%◌, ap, sym, subst, ◌∙◌, arith}
use Rattle.chip_machine.specs.Points.{lights}
use Rattle.chip_machine.specs.Sprite.{scale}
use Rattle.chip_machine.proofs.SpriteLemmas.{line_of}
use Rattle.chip_machine.proofs.RowLemmas.{IsPattern, lights_covered}
use Rattle.chip_machine.proofs.sprite.covered_bits.Goals as goal

pub returns : goal.returns
returns c = λ y column at within low up.
    let a = c.args in
    let s = c.scale_of-scale.result in
    let e = c.scale_of-scale.ensures.value in
    let bits = c.pattern_at-pattern.result in
    let top = y % (64 / s) in
    let line : at / s ≡ top + a.row = ap (λ s. at / s) e ∙ line_of a.high (y % (64 / scale a.high) + a.row) at low up ∙ ap (λ s. y % (64 / s) + a.row) (sym e) in
    let below : top ≤ at / s = omega (arith, line) in
    let row : a.row ≡ at / s - top = omega (arith, line) in
    ap (λ bits. lights bits column) c.placed.ensures
    ∙ lights_covered a.high a.x y a.sprite.now bits column at s c.pattern_at-pattern.type_inv within e below
    (subst (IsPattern bits a.high a.sprite.now) row c.pattern_at-pattern.ensures)
