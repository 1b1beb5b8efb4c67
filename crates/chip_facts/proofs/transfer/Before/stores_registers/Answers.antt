use Rattle.std.proofs.Common.{◌≡◌, ℕ, ◌+◌, ◌<◌, ◌≤◌, ◌∙◌, [], List, length, take, get_or, refl, sym, arith, subst, min}
use Rattle.std.proofs.lemmas.List.{places, get_or-take}
use Rattle.chip_machine.specs.State.{Core}
use Rattle.chip_machine.specs.Step.{effect, index_past, next, with_index}
use Rattle.chip_facts.specs.Sets.{Holds}
use Rattle.chip_facts.specs.inner.Indexes.{HoldsIndex}
use Rattle.chip_facts.specs.inner.Transfer.{IsCalm}
use Rattle.chip_facts.proofs.Accessing.{meets_store, meets_stored, index_past_small}
use Rattle.chip_facts.proofs.Outcomes.{ok_three}
use Rattle.chip_facts.proofs.transfer.Before.stores_registers.Goals as goal

pub returns : goal.returns
unfolding effect
returns c = ok_three c.accesses.result _ _ _ _ c.accesses.ensures.next c.accesses.ensures.short c.accesses.ensures.stored (λ out goes short stored s at keys.
    let x : ℕ = c.args.x in
    let i : ℕ = s.core.index in
    let n : c.number.result ≡ x = c.number.ensures.value in
    let bytes : List ℕ = take (x + 1) s.core.registers in
    let sixteen : length s.core.registers ≡ 16 = at.known.count in
    let x-small : x < 16 = c.number.ensures.range in
    let count : length bytes ≡ x + 1 = grind (arith, places) in
    let past : ℕ = index_past s.core.quirks.index_move x i in
    let core : Core = next (with_index past s.core) in
    meets_store c.args.self.now.frames.now out s keys bytes core
    (λ far. short (c.fitting-access.ensures.others i at.known.small (omega (arith, far, n, count)) at.known.index))
    (λ fits.
    let low : min i 4096 ≡ i = omega (arith, fits) in
    let fit = c.fitting-access.ensures.fits i (omega (arith, fits, n, count)) (subst (Holds c.args.self.now.known.index) low at.known.index) in
    let there : HoldsIndex c.fitting-access.result.set i = subst (Holds c.fitting-access.result.set) (sym low) fit.0 in
    let calm : IsCalm s.core core = record { same_flags = refl; tape_is = refl; quirks_are = refl; stop_is = refl } in
    meets_stored s core bytes _ at.around.size fits fit.0 (count ∙ sym c.in_ok-first_sets.ensures.count) refl
    (λ j small.
    let below : j ≤ x = omega (arith, small, count) in
    let one = at.known.each j (omega (arith, below, x-small)) in
    subst (Holds (get_or c.in_ok-first_sets.field-0.items j [])) (sym (get_or-take (x + 1) s.core.registers j 0 (omega (arith, below))))
    (c.in_ok-first_sets.ensures.each j (get_or s.core.registers j 0) below one.small one.among))
    c.args.self.now.frames.now out stored calm
    (goes fit.1 s core at (record {
      pc_is = refl;
      frames_stay = refl;
      then_known = c.with_index-known.ensures s.core past at.known (index_past_small s.core.quirks.index_move x i at.known.small)
          (subst (λ q. HoldsIndex c.index_after.result (index_past q.index_move x i)) (sym at.around.same) (c.index_after.ensures i at.known.small there));
    }))))
