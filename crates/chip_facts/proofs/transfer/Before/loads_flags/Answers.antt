use Rattle.std.proofs.Common.{◌≡◌, ℕ, ◌+◌, ◌<◌, ◌≤◌, ◌++◌, ◌∙◌, List, length, take, drop, get_or, refl, sym, ap, arith, subst, nat_le}
use Rattle.std.proofs.lemmas.Bool.{leb-true, leb-false}
use Rattle.std.proofs.lemmas.List.{places, get_or-take, get_or-append-add}
use Rattle.std.proofs.lemmas.Result.{IfOk-weaker}
use Rattle.chip_machine.specs.State.{Core}
use Rattle.chip_machine.specs.Step.{next, load_flags}
use Rattle.chip_facts.specs.inner.Knowing.{AreKnown}
use Rattle.chip_facts.specs.inner.Transfer.{IsCalm}
use Rattle.chip_facts.specs.declared.known.Known.{Known}
use Rattle.chip_facts.proofs.Accessing.{known_loaded}
use Rattle.chip_facts.proofs.Outcomes.{meets_either}
use Rattle.chip_facts.proofs.transfer.Before.loads_flags.Goals as goal

pub returns : goal.returns
returns c = IfOk-weaker c.on.result _ _ (λ out gives s at keys.
    let x : ℕ = c.args.x in
    let n : c.number.result ≡ x = c.number.ensures.value in
    let low : x < 8 = omega (arith, n, c.if-number-ge-FLAGS.false) in
    let eight : length s.core.flags ≡ 8 = at.around.flags in
    let size : length s.memory ≡ 4096 = at.around.size in
    let bytes : List ℕ = take (x + 1) s.core.flags in
    let count : length bytes ≡ x + 1 = grind (arith, places) in
    let core : Core = next (load_flags x s.core) in
    let known : Known = record c.args.self.now.known { registers = c.loaded_sets-known.result } in
    let calm : IsCalm s.core core = record { same_flags = refl; tape_is = refl; quirks_are = refl; stop_is = refl } in
    meets_either c.args.self.now.frames.now out s keys (nat_le (length s.core.flags) x) _ _
    (λ h. absurd (let more : length s.core.flags ≤ x = leb-true _ _ h in omega (arith, more, eight, low)))
    (λ _. gives s core at (record {
      pc_is = refl;
      frames_stay = refl;
      calm = calm;
      then_known =
          subst (λ m. AreKnown known (bytes ++ drop m s.core.registers) s.core.index s.core.delay s.core.high) count
          (known_loaded c.args.self.now.memory.now c.loaded_sets-known.result c.args.self.now.known s x 4096 bytes
          (omega (arith, low)) at.known at.around.small at.around.bytes (omega (arith, low)) count
          (λ y small. get_or-take (x + 1) s.core.flags y 0 (omega (arith, small))
          ∙ sym (ap (λ m. get_or (s.memory ++ s.core.flags) (m + y) 0) (sym size) ∙ get_or-append-add s.memory s.core.flags y 0))
          (λ y b small room byte value. c.loaded_sets-known.ensures.loaded y 4096 b small (omega arith) room byte c.only.ensures value)
          c.loaded_sets-known.ensures.others
          c.args.self.now.known.index s.core.index at.known.small at.known.index);
    }))) c.on.ensures

pub returns-then-number-ge-FLAGS : goal.returns-then-number-ge-FLAGS
returns-then-number-ge-FLAGS c = λ s at keys.
    meets_either c.args.self.now.frames.now c.stops.result s keys (nat_le (length s.core.flags) c.args.x) _ _
    (λ _. c.stops.ensures)
    (λ h. absurd (let less : c.args.x < length s.core.flags = leb-false _ _ h in omega (arith, less, at.around.flags, c.if-number-ge-FLAGS.true, c.number.ensures.value)))
