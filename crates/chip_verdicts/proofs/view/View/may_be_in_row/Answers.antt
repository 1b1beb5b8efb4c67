use Rattle.std.proofs.Common.{◌≡◌, ◌≤◌, ◌==◌, ℕ, Bool, true, false, eq-eqb, subst, sym, arith, ◌∙◌}
use Rattle.std.proofs.lemmas.Bool.{le-leb, ne_eqb}
use Rattle.chip_explore.specs.Property.{one_if, value_in}
use Rattle.chip_machine.specs.Step.{reg}
use Rattle.chip_verdicts.proofs.Values.{register_small}
use Rattle.chip_verdicts.proofs.view.View.may_be_in_row.Goals as goal

is_one : (test : Bool) (value : ℕ) → one_if test ≡ value → test ≡ (value == 1)
is_one true value is = sym (eq-eqb value 1 (sym is))
is_one false value is = sym (ne_eqb value 1 (λ one. omega (arith, is, one)))

pub returns-else-value-lt256 : goal.returns-else-value-lt256
returns-else-value-lt256 c = λ s seen is.
    let view = c.args.self.now in
    let at : reg s.core c.in-Register.x ≡ c.args.value = subst (λ item. value_in s item ≡ c.args.value) c.in-Register.is is in
    absurd (omega (arith, at, register_small view.facts.now view.row.now s c.in-Register.x seen.in_row, c.if-value-lt256.false))

pub returns-in-Index : goal.returns-in-Index
returns-in-Index c = λ s seen is.
    c.may_point_at.ensures c.args.self.now.facts.now s seen.in_row (subst (λ item. value_in s item ≡ c.args.value) c.in-Index.is is)

pub returns-in-Place : goal.returns-in-Place
returns-in-Place c = λ s seen is.
    let at : s.core.pc ≡ c.args.value = subst (λ item. value_in s item ≡ c.args.value) c.in-Place.is is in
    eq-eqb c.args.value c.pc.result (sym at ∙ c.pc.ensures c.args.self.now.facts.now s seen.in_row)

pub returns-in-Delay : goal.returns-in-Delay
returns-in-Delay c = λ s seen is.
    let at : s.core.delay ≡ c.args.value = subst (λ item. value_in s item ≡ c.args.value) c.in-Delay.is is in
    let below : s.core.delay ≤ c.delay_bound.result = c.delay_bound.ensures c.args.self.now.facts.now s seen.in_row in
    le-leb c.args.value c.from.result (omega (arith, at, below, c.from.ensures))

pub returns-then-value-lt2 : goal.returns-then-value-lt2
returns-then-value-lt2 c = λ s seen is.
    c.may_have_size.ensures c.args.self.now.facts.now s seen.in_row
    (is_one s.core.high c.args.value (subst (λ item. value_in s item ≡ c.args.value) c.in-High.is is))
