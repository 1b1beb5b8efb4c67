use Rattle.std.proofs.Common.{◌∙◌, ◌+◌, ◌%◌, ◌<◌, ℕ, sym, ap, subst, arith, nat_lt}
use Rattle.std.proofs.lemmas.Bool.{false≢true}
use Rattle.std.proofs.lemmas.Result.{IfOk-weaker}
use Rattle.chip_machine.specs.State.{Core}
use Rattle.chip_machine.specs.Step.{effect, next, reg, with_reg, with_sum, with_index, bit_of}
use Rattle.chip_facts.specs.inner.Knowing.{IsKnown}
use Rattle.chip_facts.specs.declared.known.Known.{Known}
use Rattle.chip_facts.proofs.Changes.{on_sum, bit_under_two}
use Rattle.chip_facts.proofs.transfer.Before.adds_index.Goals as goal
use Rattle.chip_facts.proofs.transfer.Before.adds_index.Goals.{then-self, else-self}

pub returns : goal.returns
unfolding effect
returns c = IfOk-weaker c.on.result _ _ (λ out gives. λ s at keys. gives s (next (with_sum (reg s.core c.args.x) s.core)) at (
    let one = at.known.each c.args.x c.values.ensures.range in
    let n : ℕ = reg s.core c.args.x in
    let moved : Core = with_index ((s.core.index + n) % 65536) s.core in
    let low : (s.core.index + n) % 65536 < 65536 = omega arith in
    let there : IsKnown c.with_index-known.result moved =
    c.with_index-known.ensures s.core _ at.known low (c.sums.ensures s.core.index n at.known.small one.small at.known.index (c.values.ensures.each n one.small ∙ one.among)) in
    let flag : ℕ = bit_of (nat_lt 4095 (s.core.index + n)) in
    let small : flag < 2 = bit_under_two (nat_lt 4095 (s.core.index + n)) in
    on_sum c.if-self.known s.core n c.args.self.now.quirks.flags_overflow (ap (λ q. q.flags_overflow) at.around.same)
    (λ yes. elim c.if-self.branch [
      | then-self w ↦ subst (λ (k : Known). IsKnown k (with_reg 15 flag moved)) (sym w.known-is) (w.set_flag.ensures moved flag there (w.up_to.ensures flag (omega (arith, small))))
      | else-self w ↦ absurd (false≢true (sym w.if-self.false ∙ yes))
    ])
    (λ stays. elim c.if-self.branch [
      | then-self w ↦ absurd (false≢true (sym stays ∙ w.if-self.true))
      | else-self w ↦ subst (λ (k : Known). IsKnown k moved) (sym w.known-is) there
    ]))) c.on.ensures
