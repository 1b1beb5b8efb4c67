use Rattle.std.proofs.Common.{◌≡◌, ℕ, ◌+◌, ◌*◌, ◌%◌, ◌/◌, ◌<◌, ◌≤◌, not, nat_eq, bit_or, add-zero, arith, refl, sym, ap, subst, ◌∙◌}
use Rattle.std.proofs.lemmas.Nat.{or_comm}
use Rattle.chip_machine.specs.inner.Stored.{AreTurned}
use Rattle.chip_machine.specs.Points.{lights}
use Rattle.chip_machine.specs.inner.SpriteBytes.{covers_by_length}
use Rattle.chip_machine.specs.Sprite.{scale}
use Rattle.chip_machine.proofs.RowLemmas.{turned_nowhere, turned_on}
use Rattle.chip_machine.proofs.SpriteLemmas.{scale_step}
use Rattle.chip_machine.proofs.screen.toggle_lines.Goals as goal

pub loop-row-init : goal.loop-row-init
loop-row-init c =
    let s = c.scale_of-scale.result in
    let first = c.lines_under-first.result.0 in
    turned_nowhere 0 (s * (first + 0)) _ c.args.rows.now (omega arith)
    (λ column row _ before. c.lines_under-first.ensures.above c.args.x column row
    (subst (λ n. row < scale c.args.high * n) (add-zero first) (subst (λ s. row < s * (first + 0)) c.scale_of-scale.ensures.value before)))

pub loop-row-preserved : goal.loop-row-preserved
loop-row-preserved c =
    let l = c.loop-row in
    let e = c.scale_of-scale.ensures.value in
    let s = c.scale_of-scale.result in
    let first = c.lines_under-first.result.0 in
    let line = first + l.row in
    let cover = covers_by_length c.args.high c.args.x c.args.y c.args.sprite.now in
    let later : first + (l.row + 1) ≡ line + 1 = omega arith in
    let step : s * (first + (l.row + 1)) ≡ s * line + s = ap (λ n. s * n) later ∙ subst (λ s. s * (line + 1) ≡ s * line + s) (sym e) (scale_step c.args.high line) in
    let here : s * line ≡ scale c.args.high * (c.args.y % (64 / scale c.args.high) + l.row) = (λ i. e i * (c.lines_under-first.ensures.first i + l.row)) in
    subst (λ (n : ℕ). AreTurned 0 n cover c.args.rows.now c.turn-met.new.rows (not (nat_eq (bit_or l.met c.turn-met.result) 0))) (sym step)
    (turned_on 0 (s * line) (s * line + s) cover (λ column row. lights c.covered_bits-stripe.result column) c.args.rows.now l.rows c.turn-met.new.rows l.met c.turn-met.result
    (omega arith) (omega arith)
    (λ column row within low up. c.covered_bits-stripe.ensures c.args.y column row within (subst (λ n. n ≤ row) here low) (subst (λ n. row < n) (λ i. here i + e i) up))
    l.invariant c.turn-met.ensures)

pub returns : goal.returns
returns c =
    let l = c.loop-row in
    let e = c.scale_of-scale.ensures.value in
    let s = c.scale_of-scale.result in
    let cover = covers_by_length c.args.high c.args.x c.args.y c.args.sprite.now in
    let end = c.lines_under-first.result.0 + c.lines_under-first.result.1 in
    let at_end : s * (c.lines_under-first.result.0 + l.row) ≡ scale c.args.high * end = (let last : c.lines_under-first.result.0 + l.row ≡ end = omega arith in λ i. e i * last i) in
    let inside : s * (c.lines_under-first.result.0 + l.row) ≤ 64 = subst (λ n. n ≤ 64) (sym at_end) c.lines_under-first.ensures.on_screen in
    subst (λ (met : ℕ). AreTurned 0 64 cover c.args.rows.now l.rows (not (nat_eq met 0))) (sym (or_comm 0 l.met))
    (turned_on 0 (s * (c.lines_under-first.result.0 + l.row)) 64 cover cover c.args.rows.now l.rows l.rows l.met 0 (omega arith) inside (λ _ _ _ _ _. refl) l.invariant
    (turned_nowhere _ 64 cover l.rows inside (λ column row past on_screen. c.lines_under-first.ensures.below c.args.x column row (subst (λ n. n ≤ row) at_end past) on_screen)))
