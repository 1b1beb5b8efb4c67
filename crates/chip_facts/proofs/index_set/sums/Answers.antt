use Rattle.std.proofs.Common.{◌≡◌, ℕ, ◌<◌, ◌+◌, ◌%◌, min, inl, inr, subst, sym, arith}
use Rattle.std.proofs.lemmas.Bool.{cases_lt}
use Rattle.chip_facts.specs.Sets.{Holds}
use Rattle.chip_facts.specs.inner.Indexes.{HoldsIndex}
use Rattle.chip_facts.proofs.BitSets.{below_next}
use Rattle.chip_facts.proofs.index_set.sums.Goals as goal

pub loop-at-preserved : goal.loop-at-preserved
loop-at-preserved c = record {
  past = λ h. c.add_sums.ensures.kept 4096 (c.loop-at.invariant.past h);
  low = λ h n small. c.add_sums.ensures.kept n (c.loop-at.invariant.low h n small);
  sums = below_next c.args.index.now (λ i. (b : ℕ) → b < 256 → Holds c.args.values.now b → HoldsIndex c.add_sums.new.set (i + b)) c.loop-at.at c.next-at-in-loop-at.result c.next-at-in-loop-at.ensures.none
      (λ i below h b small value. c.add_sums.ensures.kept _ (c.loop-at.invariant.sums i below h b small value)) c.add_sums.ensures.sums;
}

pub returns : goal.returns
returns c = λ i b inside small h value.
    elim (cases_lt i 4096) [
      | inl low ↦
          let at : min i 4096 ≡ i = omega arith in
          let sum : (i + b) % 65536 ≡ i + b = omega arith in
          subst (HoldsIndex c.loop-at.set) (sym sum) (c.loop-at.invariant.sums i (omega arith) (subst (Holds c.args.index.now) at h) b small value)
      | inr high ↦
          let at : min i 4096 ≡ 4096 = omega arith in
          let past : Holds c.args.index.now 4096 = subst (Holds c.args.index.now) at h in
          elim (cases_lt ((i + b) % 65536) 255) [
            | inl wraps ↦
                let is : min ((i + b) % 65536) 4096 ≡ (i + b) % 65536 = omega arith in
                subst (Holds c.loop-at.set) (sym is) (c.loop-at.invariant.low past _ wraps)
            | inr stays ↦
                let is : min ((i + b) % 65536) 4096 ≡ 4096 = omega arith in
                subst (Holds c.loop-at.set) (sym is) (c.loop-at.invariant.past past)
          ]
    ]
