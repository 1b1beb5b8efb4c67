use Rattle.std.proofs.Common.{ℕ, Bool, sym, subst, if◌then◌else◌}
use Rattle.std.proofs.lemmas.Result.{IfOk-weaker}
use Rattle.chip_machine.specs.State.{Core}
use Rattle.chip_machine.specs.Step.{next, reg, with_reg, with_flag}
use Rattle.chip_facts.specs.inner.Knowing.{IsKnown, second_of}
use Rattle.chip_facts.specs.inner.Operations.{value_of}
use Rattle.chip_facts.specs.declared.known.Known.{Known}
use Rattle.chip_facts.proofs.Changes.{on_plain}
use Rattle.chip_facts.proofs.transfer.Before.plain.Goals as goal
use Rattle.chip_facts.proofs.transfer.Before.plain.Goals.{then-clears, else-clears}

pub returns-after-clears : goal.returns-after-clears
returns-after-clears c = IfOk-weaker c.on.result _ _ (λ out gives none.
    let value : (core : Core) → ℕ = λ core. value_of c.args.operation (reg core c.args.x) (second_of c.args.second.now core) in
    λ s at keys. gives s (next (if c.args.clears then with_flag c.args.x (value s.core) 0 s.core else with_reg c.args.x (value s.core) s.core)) at (
    let there = c.in-Some.ensures.is s.core at.known (none (reg s.core c.args.x) (second_of c.args.second.now s.core)) in
    on_plain c.if-clears.known s.core c.args.x (value s.core) c.args.clears (elim c.if-clears.branch [
      | then-clears w ↦
          subst (λ (b : Bool). IsKnown c.if-clears.known (if b then with_flag c.args.x (value s.core) 0 s.core else with_reg c.args.x (value s.core) s.core)) (sym w.if-clears.true)
          (subst (λ (k : Known). IsKnown k (with_flag c.args.x (value s.core) 0 s.core)) (sym w.known-is) (w.set_flag.ensures (with_reg c.args.x (value s.core) s.core) 0 there w.single.ensures))
      | else-clears w ↦
          subst (λ (b : Bool). IsKnown c.if-clears.known (if b then with_flag c.args.x (value s.core) 0 s.core else with_reg c.args.x (value s.core) s.core)) (sym w.if-clears.false)
          (subst (λ (k : Known). IsKnown k (with_reg c.args.x (value s.core) s.core)) (sym w.known-is) there)
    ]))) c.on.ensures
