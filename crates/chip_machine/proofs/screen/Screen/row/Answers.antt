use Rattle.std.proofs.Common.{◌≡◌, ℕ, ◌-◌, ◌<◌, ◌^◌, ◌==◌, ◌↔◌, false, length, arith, rules, sym, ap, ◌∙◌}
use Rattle.std.proofs.lemmas.List.{get_or_default}
use Rattle.std.proofs.lemmas.Nat.Bits.{bit_at-zero}
use Rattle.chip_machine.specs.Points.{Points, is_lit, lights}
use Rattle.chip_machine.proofs.BitLemmas.{dark_row}
use Rattle.chip_machine.proofs.PointLemmas.{is_lit-points_where, dark_outside}
use Rattle.chip_machine.proofs.screen.Screen.row.Goals as goal

-- a row that is zero has no lit column
dark_zero : (column : ℕ) → lights 0 column ≡ false
dark_zero column = ap (λ bit. bit == 1) (bit_at-zero (127 - column))

-- a row is zero if and only if it is dark
zero_or_lit : (bits row : ℕ) (lit : Points) → bits < 2 ^ 128 → ((column : ℕ) → column < 128 → lights bits column ≡ is_lit lit column row)
    → (bits ≡ 0) ↔ ((column : ℕ) → column < 128 → is_lit lit column row ≡ false)
zero_or_lit bits row lit fits same =
    (λ zero column within. sym (same column within) ∙ ap (λ n. lights n column) zero ∙ dark_zero column, λ dark. dark_row bits fits (λ column within. same column within ∙ dark column within))

pub returns-then-row-lt-HEIGHT : goal.returns-then-row-lt-HEIGHT
returns-then-row-lt-HEIGHT c =
    let inside : c.args.row < length c.self.inside.rows.items = omega (arith, c.self.invariant, c.if-row-lt-HEIGHT.true) in
    let points = λ (column : ℕ) (within : column < 128).
    ap (λ bits. lights bits column) (c.index.ensures ∙ get_or_default c.self.inside.rows.items c.args.row c.index.result.now 0 inside)
    ∙ sym (is_lit-points_where _ column c.args.row within c.if-row-lt-HEIGHT.true)
    ∙ ap (λ s. is_lit s column c.args.row) c.self.view_is in
    record { points = points; dark = zero_or_lit _ c.args.row c.args.self.now (search rules) points }

pub returns-else-row-lt-HEIGHT : goal.returns-else-row-lt-HEIGHT
returns-else-row-lt-HEIGHT c =
    let outside = λ (column : ℕ).
    sym (dark_outside _ column c.args.row (λ (p : (column < 128) × (c.args.row < 64)). omega (arith, p.1, c.if-row-lt-HEIGHT.false)))
    ∙ ap (λ s. is_lit s column c.args.row) c.self.view_is in
    let points = λ (column : ℕ) (within : column < 128). dark_zero column ∙ outside column in
    record { points = points; dark = zero_or_lit 0 c.args.row c.args.self.now (search rules) points }
