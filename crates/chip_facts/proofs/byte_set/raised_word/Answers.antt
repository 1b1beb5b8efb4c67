use Rattle.std.proofs.Common.{◌≡◌, ◌+◌, ◌-◌, ◌*◌, ◌/◌, ◌%◌, ◌^◌, ◌<◌, get_or, subst, inl, inr, arith}
use Rattle.std.specs.Int.{bit_at}
use Rattle.std.proofs.lemmas.Bool.{cases_lt}
use Rattle.chip_facts.proofs.Shifts.{or_left, or_right, raised_within, raised_over}
use Rattle.chip_facts.proofs.byte_set.raised_word.Goals as goal
use Rattle.chip_facts.proofs.byte_set.raised_word.Goals.{then-i-words-2-via-then-i-words-2, then-i-words-2-via-else-i-words-2+then-bits-eq0}

pub returns-then-i-words-2 : goal.returns-then-i-words-2
returns-then-i-words-2 c = λ a is h.
    let inside : a % 64 + c.args.by % 64 < 64 = elim c.then-i-words-2.branch [
      | then-i-words-2-via-then-i-words-2 w ↦ omega (arith, is, w.if-i-words-2.true)
      | then-i-words-2-via-else-i-words-2+then-bits-eq0 w ↦ omega (arith, w.if-bits-eq0.true)
    ] in
    let place : a / 64 ≡ c.args.i - c.args.by / 64 = omega (arith, is, inside) in
    subst (λ k. bit_at (get_or c.args.set.now k 0 * 2 ^ (c.args.by % 64) % 2 ^ 64) ((a + c.args.by) % 64) ≡ 1) place (raised_within c.args.set.now a c.args.by h inside)

pub returns : goal.returns
returns c = λ a is h.
    elim (cases_lt (a % 64 + c.args.by % 64) 64) [
      | inl inside ↦
          let place : a / 64 ≡ c.args.i - c.args.by / 64 = omega (arith, is, inside) in
          or_left _ _ _ (subst (λ k. bit_at (get_or c.args.set.now k 0 * 2 ^ (c.args.by % 64) % 2 ^ 64) ((a + c.args.by) % 64) ≡ 1) place (raised_within c.args.set.now a c.args.by h inside))
      | inr over ↦
          let place : a / 64 ≡ c.args.i - c.args.by / 64 - 1 = omega (arith, is, over) in
          or_right _ _ _ (subst (λ k. bit_at (get_or c.args.set.now k 0 / 2 ^ (64 - c.args.by % 64)) ((a + c.args.by) % 64) ≡ 1) place (raised_over c.args.set.now a c.args.by h over))
    ]
