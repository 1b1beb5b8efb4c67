use Rattle.std.proofs.Common.{◌≡◌, ◌/◌, get_or, bit_or, subst, inl, inr, arith}
use Rattle.std.proofs.lemmas.Bool.{cases_lt}
use Rattle.chip_facts.proofs.BitSets.{word_within}
use Rattle.chip_facts.proofs.bits.is_within.Goals as goal

pub loop-i-preserved : goal.loop-i-preserved
loop-i-preserved c = λ n below h.
    elim (cases_lt (n / 64) c.loop-i.i) [
      | inl before ↦ c.loop-i.invariant n before h
      | inr here ↦
          let is : c.loop-i.i ≡ n / 64 = omega arith in
          word_within c.args.words.now c.args.others.now n (subst (λ k. bit_or (get_or c.args.words.now k 0) (get_or c.args.others.now k 0) ≡ get_or c.args.others.now k 0) is c.if-words-i.false) h
    ]
