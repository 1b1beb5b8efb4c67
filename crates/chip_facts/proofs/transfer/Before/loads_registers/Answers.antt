use Rattle.std.proofs.Common.{◌≡◌, ℕ, ◌+◌, List, length, take, drop, refl, sym, ◌∙◌, arith, subst, min}
use Rattle.std.proofs.lemmas.List.{places, get_or_append_left, get_or-take, get_or-drop}
use Rattle.chip_machine.specs.State.{Core}
use Rattle.chip_machine.specs.Step.{effect, index_past, load_registers, next, with_index}
use Rattle.chip_facts.specs.Sets.{Holds}
use Rattle.chip_facts.specs.inner.Indexes.{HoldsIndex}
use Rattle.chip_facts.specs.inner.Transfer.{IsCalm}
use Rattle.chip_facts.proofs.Accessing.{meets_load, known_loaded, index_past_small}
use Rattle.chip_facts.proofs.Outcomes.{meets_some, ok_three}
use Rattle.chip_facts.proofs.transfer.Before.loads_registers.Goals as goal

pub returns : goal.returns
unfolding effect
returns c = ok_three c.accesses.result _ _ _ _ c.accesses.ensures.next c.accesses.ensures.short c.accesses.ensures.stored (λ out goes short stored s at keys.
    let x : ℕ = c.args.x in
    let i : ℕ = s.core.index in
    let n : c.number.result ≡ x = c.number.ensures.value in
    meets_load c.args.self.now.frames.now out s keys (x + 1)
    (λ bytes. next (with_index (index_past s.core.quirks.index_move x i) (load_registers s.core bytes)))
    (λ past. short (c.fitting-access.ensures.others i at.known.small (omega (arith, past, n)) at.known.index))
    (λ fits.
    let low : min i 4096 ≡ i = omega (arith, fits) in
    let fit = c.fitting-access.ensures.fits i (omega (arith, fits, n)) (subst (Holds c.args.self.now.known.index) low at.known.index) in
    let there : HoldsIndex c.fitting-access.result.set i = subst (Holds c.fitting-access.result.set) (sym low) fit.0 in
    let bytes : List ℕ = take (x + 1) (drop i s.memory) in
    let size : length s.memory ≡ 4096 = at.around.size in
    let count : length bytes ≡ x + 1 = grind (arith, places) in
    let core : Core = next (with_index (index_past s.core.quirks.index_move x i) (load_registers s.core bytes)) in
    let calm : IsCalm s.core core = record { same_flags = refl; tape_is = refl; quirks_are = refl; stop_is = refl } in
    meets_some c.args.self.now.frames.now out s core stored calm (goes fit.1 s core at (record {
      pc_is = refl;
      frames_stay = refl;
      then_known = known_loaded c.args.self.now.memory.now c.loaded_sets-known.result c.args.self.now.known s x i bytes
          c.number.ensures.range at.known at.around.small at.around.bytes (omega (arith, fits)) count
          (λ y small. get_or-take (x + 1) (drop i s.memory) y 0 (omega (arith, small)) ∙ get_or-drop i s.memory y 0
          ∙ sym (get_or_append_left s.memory s.core.flags 0 (i + y) (omega (arith, size, fits, small))))
          (λ y b small room byte value. c.loaded_sets-known.ensures.loaded y i b small (omega (arith, fits)) room byte fit.0 value)
          c.loaded_sets-known.ensures.others
          c.index_after-known.result (index_past s.core.quirks.index_move x i)
          (index_past_small s.core.quirks.index_move x i at.known.small)
          (subst (λ q. HoldsIndex c.index_after-known.result (index_past q.index_move x i)) (sym at.around.same) (c.index_after-known.ensures i at.known.small there));
    })))
    )
