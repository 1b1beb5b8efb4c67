use Rattle.std.proofs.Common.{◌≤◌, inl, inr, arith, subst, sym}
use Rattle.chip_explore.specs.Property.{value_in}
use Rattle.chip_verdicts.proofs.Values.{byte_small, register_small}
use Rattle.chip_verdicts.proofs.view.View.limit.Goals as goal

pub returns-in-Register : goal.returns-in-Register
returns-in-Register c = λ s seen.
    let view = c.args.self.now in
    elim c.in-Register.is [
      | inl is ↦ subst (λ item. value_in s item ≤ 255) (sym is.1) (omega (arith, register_small view.facts.now view.row.now s is.0 seen.in_row))
      | inr is ↦ subst (λ item. value_in s item ≤ 255) (sym is.1) (omega (arith, byte_small view.facts.now view.row.now s is.0 seen.in_row))
    ]
