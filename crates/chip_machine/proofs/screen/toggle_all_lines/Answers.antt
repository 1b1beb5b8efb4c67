use Rattle.std.proofs.Common.{◌≡◌, ℕ, ◌+◌, ◌*◌, ◌/◌, ◌<◌, ◌≤◌, not, nat_eq, bit_or, arith, sym, ap, subst, ◌∙◌}
use Rattle.chip_machine.specs.inner.Stored.{AreTurned}
use Rattle.chip_machine.specs.Points.{lights}
use Rattle.chip_machine.specs.inner.SpriteBytes.{covers}
use Rattle.chip_machine.specs.Sprite.{scale}
use Rattle.chip_machine.proofs.RowLemmas.{turned_nowhere, turned_on}
use Rattle.chip_machine.proofs.SpriteLemmas.{lines_fill, scale_step}
use Rattle.chip_machine.proofs.screen.toggle_all_lines.Goals as goal

pub loop-line-init : goal.loop-line-init
loop-line-init c =
    let none : c.scale_of-scale.result * 0 ≡ 0 = omega arith in
    turned_nowhere 0 (c.scale_of-scale.result * 0) _ c.args.rows.now (omega arith) (λ column row _ before. absurd (omega (arith, none, before)))

pub loop-line-preserved : goal.loop-line-preserved
loop-line-preserved c =
    let l = c.loop-line in
    let e = c.scale_of-scale.ensures.value in
    let s = c.scale_of-scale.result in
    let cover = covers c.args.wraps c.args.high c.args.x c.args.y c.args.sprite.now in
    let step : s * (l.line + 1) ≡ s * l.line + s = subst (λ s. s * (l.line + 1) ≡ s * l.line + s) (sym e) (scale_step c.args.high l.line) in
    let here : s * l.line ≡ scale c.args.high * l.line = ap (λ n. n * l.line) e in
    subst (λ (n : ℕ). AreTurned 0 n cover c.args.rows.now c.turn-met.new.rows (not (nat_eq (bit_or l.met c.turn-met.result) 0))) (sym step)
    (turned_on 0 (s * l.line) (s * l.line + s) cover (λ column row. lights c.stripe_over-stripe.result column) c.args.rows.now l.rows c.turn-met.new.rows l.met c.turn-met.result
    (omega arith) (omega arith)
    (λ column row within low up. c.stripe_over-stripe.ensures column row within (subst (λ n. n ≤ row) here low) (subst (λ n. row < n) (λ i. here i + e i) up))
    l.invariant c.turn-met.ensures)

pub returns : goal.returns
returns c =
    let l = c.loop-line in
    let s = c.scale_of-scale.result in
    let at_end : l.line ≡ 64 / s = omega arith in
    subst (λ (n : ℕ). AreTurned 0 n (covers c.args.wraps c.args.high c.args.x c.args.y c.args.sprite.now) c.args.rows.now l.rows (not (nat_eq l.met 0)))
    (ap (λ n. s * n) at_end ∙ lines_fill c.args.high s c.scale_of-scale.ensures.value) l.invariant
