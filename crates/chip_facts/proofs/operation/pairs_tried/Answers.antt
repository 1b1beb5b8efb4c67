use Rattle.std.proofs.Common.{◌≡◌, subst, sym}
use Rattle.chip_facts.specs.inner.Operations.{value_of, flag_of, IsMade}
use Rattle.chip_facts.proofs.BitSets.{below_next, not_there}
use Rattle.chip_facts.proofs.operation.pairs_tried.Goals as goal
use Rattle.chip_facts.proofs.operation.pairs_tried.Goals.{then-not-same, else-not-same+then-contains, else-not-same+else-contains}
use Rattle.std.proofs.Common.{ℕ, ◌<◌, true}
use Rattle.chip_facts.specs.Sets.{Holds}

pub loop-b-preserved : goal.loop-b-preserved
loop-b-preserved c =
    below_next c.args.seconds.now
    (λ b. (a : ℕ) → a < 256 → Holds c.args.firsts.now a → (c.args.same ≡ true → a ≡ b) → flag_of c.args.operation a b ≡ c.args.flag → IsMade c.if-not-same.made (value_of c.args.operation a b) b)
    c.loop-b.b c.next-b-in-loop-b.result c.next-b-in-loop-b.ensures.none
    (λ b below h a small first same flag.
    let is = c.loop-b.invariant b below h a small first same flag in
    elim c.if-not-same.branch [
      | then-not-same w ↦ subst (λ m. IsMade m (value_of c.args.operation a b) b) (sym w.made-is) (w.add_all.ensures.kept _ b is)
      | else-not-same+then-contains w ↦ subst (λ m. IsMade m (value_of c.args.operation a b) b) (sym w.made-is) (w.add.ensures.kept _ b is)
      | else-not-same+else-contains w ↦ subst (λ m. IsMade m (value_of c.args.operation a b) b) (sym w.made-is) is
    ])
    (λ a small first same flag.
    elim c.if-not-same.branch [
      | then-not-same w ↦ subst (λ m. IsMade m (value_of c.args.operation a c.loop-b.b) c.loop-b.b) (sym w.made-is) (w.add_all.ensures.added a small first flag)
      | else-not-same+then-contains w ↦
          let is : a ≡ c.loop-b.b = same w.if-not-same.false in
          subst (λ m. IsMade m (value_of c.args.operation a c.loop-b.b) c.loop-b.b) (sym w.made-is)
          (subst (λ k. flag_of c.args.operation k c.loop-b.b ≡ c.args.flag → IsMade w.add.new.self (value_of c.args.operation k c.loop-b.b) c.loop-b.b) (sym is) w.add.ensures.added flag)
      | else-not-same+else-contains w ↦ absurd (not_there c.args.firsts.now c.loop-b.b a _ w.contains.ensures w.if-contains.false (sym (same w.if-not-same.false)) first)
    ])
