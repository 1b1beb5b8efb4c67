use Rattle.std.proofs.Common.{◌≡◌, ◌+◌, ◌-◌, ◌*◌, ◌/◌, ◌%◌, ◌^◌, ◌<◌, ◌≤◌, get_or, subst, inl, inr, arith}
use Rattle.std.specs.Int.{bit_at}
use Rattle.std.proofs.lemmas.Bool.{cases_lt}
use Rattle.chip_facts.proofs.BitSets.{holds_inside}
use Rattle.chip_facts.proofs.Shifts.{or_left, or_right, lowered_within, lowered_over}
use Rattle.chip_facts.proofs.byte_set.lowered_word.Goals as goal
use Rattle.chip_facts.proofs.byte_set.lowered_word.Goals.{then-from-eq3-via-then-from-eq3, then-from-eq3-via-else-from-eq3+then-bits-eq0}

pub returns-then-from-eq3 : goal.returns-then-from-eq3
returns-then-from-eq3 c = λ a least is h.
    let byte : a < 256 = omega (arith, holds_inside c.args.set.now a h, c.told-set) in
    let inside : c.args.by % 64 ≤ a % 64 = elim c.then-from-eq3.branch [
      | then-from-eq3-via-then-from-eq3 w ↦ omega (arith, byte, least, is, w.if-from-eq3.true)
      | then-from-eq3-via-else-from-eq3+then-bits-eq0 w ↦ omega (arith, w.if-bits-eq0.true)
    ] in
    let place : a / 64 ≡ c.args.i + c.args.by / 64 = omega (arith, least, is, inside) in
    subst (λ k. bit_at (get_or c.args.set.now k 0 / 2 ^ (c.args.by % 64)) ((a - c.args.by) % 64) ≡ 1) place (lowered_within c.args.set.now a c.args.by h least inside)

pub returns : goal.returns
returns c = λ a least is h.
    elim (cases_lt (a % 64) (c.args.by % 64)) [
      | inl over ↦
          let place : a / 64 ≡ c.args.i + c.args.by / 64 + 1 = omega (arith, least, is, over) in
          or_right _ _ _ (subst (λ k. bit_at (get_or c.args.set.now k 0 * 2 ^ (64 - c.args.by % 64) % 2 ^ 64) ((a - c.args.by) % 64) ≡ 1) place (lowered_over c.args.set.now a c.args.by h least over))
      | inr inside ↦
          let place : a / 64 ≡ c.args.i + c.args.by / 64 = omega (arith, least, is, inside) in
          or_left _ _ _ (subst (λ k. bit_at (get_or c.args.set.now k 0 / 2 ^ (c.args.by % 64)) ((a - c.args.by) % 64) ≡ 1) place (lowered_within c.args.set.now a c.args.by h least inside))
    ]
