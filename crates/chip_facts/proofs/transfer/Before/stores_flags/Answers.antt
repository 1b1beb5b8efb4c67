use Rattle.std.proofs.Common.{◌≡◌, ℕ, ◌<◌, ◌≤◌, length, refl, sym, arith, nat_le}
use Rattle.std.proofs.lemmas.Bool.{leb-true, leb-false}
use Rattle.chip_machine.specs.Step.{next, store_flags}
use Rattle.chip_facts.proofs.Accessing.{meets_flags}
use Rattle.chip_facts.proofs.Outcomes.{meets_either, ok_three}
use Rattle.chip_facts.proofs.transfer.Before.stores_flags.Goals as goal

pub returns : goal.returns
returns c = ok_three c.accesses.result _ _ _ _ c.accesses.ensures.next c.accesses.ensures.short c.accesses.ensures.stored (λ out goes short stored s at keys.
    let x : ℕ = c.args.x in
    let n : c.number.result ≡ x = c.number.ensures.value in
    let low : x < 8 = omega (arith, n, c.if-number-ge-FLAGS.false) in
    let eight : length s.core.flags ≡ 8 = at.around.flags in
    meets_either c.args.self.now.frames.now out s keys (nat_le (length s.core.flags) x) _ _
    (λ h. absurd (let more : length s.core.flags ≤ x = leb-true _ _ h in omega (arith, more, eight, low)))
    (λ _. meets_flags s x _ at.around.size eight at.known.count low c.only-at.ensures (sym c.in_ok-first_sets.ensures.count)
    (λ j below.
    let one = at.known.each j (omega (arith, below, low)) in
    c.in_ok-first_sets.ensures.each j _ below one.small one.among)
    c.args.self.now.frames.now out stored
    (goes refl s (next (store_flags x s.core)) at (record { pc_is = refl; frames_stay = refl; then_known = at.known }))))

pub returns-then-number-ge-FLAGS : goal.returns-then-number-ge-FLAGS
returns-then-number-ge-FLAGS c = λ s at keys.
    meets_either c.args.self.now.frames.now c.stops.result s keys (nat_le (length s.core.flags) c.args.x) _ _
    (λ _. c.stops.ensures)
    (λ h. absurd (let less : c.args.x < length s.core.flags = leb-false _ _ h in omega (arith, less, at.around.flags, c.if-number-ge-FLAGS.true, c.number.ensures.value)))
