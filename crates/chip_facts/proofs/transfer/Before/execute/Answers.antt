use Rattle.std.proofs.Common.{◌≡◌, ℕ, ◌+◌, ◌*◌, ◌/◌, ◌%◌, not, bit_and, Result, Ok, IfOk, refl, sym, arith, subst}
use Rattle.std.specs.declared.alloc.AllocError.{AllocError}
use Rattle.std.specs.FinSet as set
use Rattle.std.proofs.lemmas.Result.{IfOk-weaker}
use Rattle.chip_lang.specs.declared.instr.Instr.{Instr}
use Rattle.chip_machine.specs.declared.stop.Stop.TheVariants as cause
use Rattle.chip_machine.specs.Scroll.{scrolled_down, scrolled_right, scrolled_left}
use Rattle.chip_machine.specs.Step.{Stops, effect, next, reg, with_reg, with_flag, with_index, with_lit, scrolled_by, random_byte, drawn, is_key_down}
use Rattle.chip_facts.specs.inner.Indexes.{HoldsIndex}
use Rattle.chip_facts.specs.inner.Steps.{Meets}
use Rattle.chip_facts.specs.inner.Transfer.{Gives}
use Rattle.chip_facts.specs.declared.outcome.Outcome.{Outcome}
use Rattle.chip_facts.specs.declared.transfer.Before.{Before}
use Rattle.chip_facts.proofs.Changes.{on_next}
use Rattle.chip_facts.proofs.transfer.Before.execute.Goals as goal

-- an instruction in a row of the table has the outcome of that row
is_row : (before : Before) (r : Result Outcome AllocError) (instr row : Instr) → instr ≡ row → IfOk r (λ out. Gives before out (effect row)) → IfOk r (λ out. Gives before out (effect instr))
is_row before r instr row is h = subst (λ i. IfOk r (λ out. Gives before out (effect i))) (sym is) h

pub returns-in-ScrollDown : goal.returns-in-ScrollDown
unfolding effect
returns-in-ScrollDown c = is_row c.args.self.now c.if_super.result _ _ c.in-ScrollDown.is (c.if_super.ensures _ (IfOk-weaker c.on.result _ _ (λ out gives s at keys. gives s (next (with_lit (scrolled_down (scrolled_by c.in-ScrollDown.field-0 s.core) s.core.lit) s.core)) at (on_next _ _ _ refl at.known)) c.on.ensures))

pub returns-in-ClearScreen : goal.returns-in-ClearScreen
unfolding effect
returns-in-ClearScreen c = is_row c.args.self.now c.on-in-ClearScreen.result _ _ c.in-ClearScreen.is (IfOk-weaker c.on-in-ClearScreen.result _ _ (λ out gives s at keys. gives s (next (with_lit set.empty s.core)) at (on_next _ _ _ refl at.known)) c.on-in-ClearScreen.ensures)

pub returns-in-ScrollRight : goal.returns-in-ScrollRight
unfolding effect
returns-in-ScrollRight c = is_row c.args.self.now c.if_super-in-ScrollRight.result _ _ c.in-ScrollRight.is (c.if_super-in-ScrollRight.ensures _ (IfOk-weaker c.on-in-ScrollRight.result _ _ (λ out gives s at keys. gives s (next (with_lit (scrolled_right (scrolled_by 4 s.core) s.core.lit) s.core)) at (on_next _ _ _ refl at.known)) c.on-in-ScrollRight.ensures))

pub returns-in-ScrollLeft : goal.returns-in-ScrollLeft
unfolding effect
returns-in-ScrollLeft c = is_row c.args.self.now c.if_super-in-ScrollLeft.result _ _ c.in-ScrollLeft.is (c.if_super-in-ScrollLeft.ensures _ (IfOk-weaker c.on-in-ScrollLeft.result _ _ (λ out gives s at keys. gives s (next (with_lit (scrolled_left (scrolled_by 4 s.core) s.core.lit) s.core)) at (on_next _ _ _ refl at.known)) c.on-in-ScrollLeft.ensures))

pub returns-in-Exit : goal.returns-in-Exit
unfolding effect
returns-in-Exit c = is_row c.args.self.now c.if_super-in-Exit.result _ _ c.in-Exit.is (c.if_super-in-Exit.ensures (λ _. Stops cause.Exit) (λ s at keys. c.stops.ensures))

pub returns-in-LowSize : goal.returns-in-LowSize
unfolding effect
returns-in-LowSize c = is_row c.args.self.now c.if_super-in-LowSize.result _ _ c.in-LowSize.is (c.if_super-in-LowSize.ensures _ c.resizes.ensures)

pub returns-in-HighSize : goal.returns-in-HighSize
unfolding effect
returns-in-HighSize c = is_row c.args.self.now c.if_super-in-HighSize.result _ _ c.in-HighSize.is (c.if_super-in-HighSize.ensures _ c.resizes-in-HighSize.ensures)

pub returns-in-SkipIfByte : goal.returns-in-SkipIfByte
unfolding effect
returns-in-SkipIfByte c = is_row c.args.self.now c.skips.result _ _ c.in-SkipIfByte.is (c.skips.ensures)

pub returns-in-SkipUnlessByte : goal.returns-in-SkipUnlessByte
unfolding effect
returns-in-SkipUnlessByte c = is_row c.args.self.now c.skips-in-SkipUnlessByte.result _ _ c.in-SkipUnlessByte.is (c.skips-in-SkipUnlessByte.ensures)

pub returns-in-SkipIfEqual : goal.returns-in-SkipIfEqual
unfolding effect
returns-in-SkipIfEqual c = is_row c.args.self.now c.skips-in-SkipIfEqual.result _ _ c.in-SkipIfEqual.is (c.skips-in-SkipIfEqual.ensures)

pub returns-in-SkipUnlessEqual : goal.returns-in-SkipUnlessEqual
unfolding effect
returns-in-SkipUnlessEqual c = is_row c.args.self.now c.skips-in-SkipUnlessEqual.result _ _ c.in-SkipUnlessEqual.is (c.skips-in-SkipUnlessEqual.ensures)

pub returns-in-LoadByte : goal.returns-in-LoadByte
unfolding effect
returns-in-LoadByte c = is_row c.args.self.now c.plain.result _ _ c.in-LoadByte.is (IfOk-weaker c.plain.result _ _ (λ out gives. gives (λ a b. refl)) c.plain.ensures)

pub returns-in-AddByte : goal.returns-in-AddByte
unfolding effect
returns-in-AddByte c = is_row c.args.self.now c.plain-in-AddByte.result _ _ c.in-AddByte.is (IfOk-weaker c.plain-in-AddByte.result _ _ (λ out gives. gives (λ a b. refl)) c.plain-in-AddByte.ensures)

pub returns-in-Copy : goal.returns-in-Copy
unfolding effect
returns-in-Copy c = is_row c.args.self.now c.plain-in-Copy.result _ _ c.in-Copy.is (IfOk-weaker c.plain-in-Copy.result _ _ (λ out gives. gives (λ a b. refl)) c.plain-in-Copy.ensures)

pub returns-in-Or : goal.returns-in-Or
unfolding effect
returns-in-Or c = is_row c.args.self.now c.logic.result _ _ c.in-Or.is (IfOk-weaker c.logic.result _ _ (λ out gives. gives (λ a b. refl)) c.logic.ensures)

pub returns-in-And : goal.returns-in-And
unfolding effect
returns-in-And c = is_row c.args.self.now c.logic-in-And.result _ _ c.in-And.is (IfOk-weaker c.logic-in-And.result _ _ (λ out gives. gives (λ a b. refl)) c.logic-in-And.ensures)

pub returns-in-Xor : goal.returns-in-Xor
unfolding effect
returns-in-Xor c = is_row c.args.self.now c.logic-in-Xor.result _ _ c.in-Xor.is (IfOk-weaker c.logic-in-Xor.result _ _ (λ out gives. gives (λ a b. refl)) c.logic-in-Xor.ensures)

pub returns-in-Add : goal.returns-in-Add
unfolding effect
returns-in-Add c = is_row c.args.self.now c.arithmetic.result _ _ c.in-Add.is (c.arithmetic.ensures)

pub returns-in-Subtract : goal.returns-in-Subtract
unfolding effect
returns-in-Subtract c = is_row c.args.self.now c.arithmetic-in-Subtract.result _ _ c.in-Subtract.is (c.arithmetic-in-Subtract.ensures)

pub returns-in-SubtractFrom : goal.returns-in-SubtractFrom
unfolding effect
returns-in-SubtractFrom c = is_row c.args.self.now c.arithmetic-in-SubtractFrom.result _ _ c.in-SubtractFrom.is (c.arithmetic-in-SubtractFrom.ensures)

pub returns-in-ShiftRight : goal.returns-in-ShiftRight
unfolding effect
returns-in-ShiftRight c = is_row c.args.self.now c.arithmetic-in-ShiftRight.result _ _ c.in-ShiftRight.is (IfOk-weaker c.arithmetic-in-ShiftRight.result _ _ (λ out gives s at keys. subst (λ v. Meets c.args.self.now.frames.now out s (Ok (record s { core = next (with_flag c.in-ShiftRight.x (v / 2) (v % 2) s.core) }))) (c.shifted.ensures s.core at.around.same) (gives s at keys)) c.arithmetic-in-ShiftRight.ensures)

pub returns-in-ShiftLeft : goal.returns-in-ShiftLeft
unfolding effect
returns-in-ShiftLeft c = is_row c.args.self.now c.arithmetic-in-ShiftLeft.result _ _ c.in-ShiftLeft.is (IfOk-weaker c.arithmetic-in-ShiftLeft.result _ _ (λ out gives s at keys. subst (λ v. Meets c.args.self.now.frames.now out s (Ok (record s { core = next (with_flag c.in-ShiftLeft.x (v * 2 % 256) (v / 128) s.core) }))) (c.shifted-in-ShiftLeft.ensures s.core at.around.same) (gives s at keys)) c.arithmetic-in-ShiftLeft.ensures)

pub returns-in-LoadIndex : goal.returns-in-LoadIndex
unfolding effect
returns-in-LoadIndex c = is_row c.args.self.now c.on-in-LoadIndex.result _ _ c.in-LoadIndex.is (IfOk-weaker c.on-in-LoadIndex.result _ _ (λ out gives s at keys. gives s (next (with_index c.in-LoadIndex.address s.core)) at (on_next _ _ _ refl (c.with_index.ensures s.core c.in-LoadIndex.address at.known (omega (arith, c.number.ensures.range)) (subst (HoldsIndex c.only.result) c.number.ensures.value c.only.ensures)))) c.on-in-LoadIndex.ensures)

pub returns-in-Random : goal.returns-in-Random
unfolding effect
returns-in-Random c = is_row c.args.self.now c.on-in-Random.result _ _ c.in-Random.is (IfOk-weaker c.on-in-Random.result _ _ (λ out gives s at keys. let byte : ℕ = bit_and (random_byte s.core) c.in-Random.byte in gives s (next (with_reg c.in-Random.x byte (drawn s.core))) at (on_next _ _ _ refl (c.with.ensures s.core byte at.known (c.masked.ensures (random_byte s.core) (at.around.tape _))))) c.on-in-Random.ensures)

pub returns-in-SkipIfKey : goal.returns-in-SkipIfKey
unfolding effect
returns-in-SkipIfKey c = is_row c.args.self.now c.asks_key.result _ _ c.in-SkipIfKey.is (IfOk-weaker c.asks_key.result _ _ (λ out gives. gives (λ keys core. is_key_down keys (reg core c.in-SkipIfKey.field-0 % 16))) c.asks_key.ensures)

pub returns-in-SkipUnlessKey : goal.returns-in-SkipUnlessKey
unfolding effect
returns-in-SkipUnlessKey c = is_row c.args.self.now c.asks_key-in-SkipUnlessKey.result _ _ c.in-SkipUnlessKey.is (IfOk-weaker c.asks_key-in-SkipUnlessKey.result _ _ (λ out gives. gives (λ keys core. not (is_key_down keys (reg core c.in-SkipUnlessKey.field-0 % 16)))) c.asks_key-in-SkipUnlessKey.ensures)

pub returns-in-ReadDelay : goal.returns-in-ReadDelay
unfolding effect
returns-in-ReadDelay c = is_row c.args.self.now c.on-in-ReadDelay.result _ _ c.in-ReadDelay.is (IfOk-weaker c.on-in-ReadDelay.result _ _ (λ out gives s at keys. gives s (next (with_reg c.in-ReadDelay.x s.core.delay s.core)) at (on_next _ _ _ refl (c.with-in-ReadDelay.ensures s.core s.core.delay at.known (c.up_to.ensures s.core.delay at.known.bound)))) c.on-in-ReadDelay.ensures)

pub returns-in-SetSound : goal.returns-in-SetSound
unfolding effect
returns-in-SetSound c = is_row c.args.self.now c.on-in-SetSound.result _ _ c.in-SetSound.is (IfOk-weaker c.on-in-SetSound.result _ _ (λ out gives s at keys. gives s (next (record s.core { sound = reg s.core c.in-SetSound.field-0 })) at (on_next _ _ _ refl at.known)) c.on-in-SetSound.ensures)

pub returns-in-SmallDigit : goal.returns-in-SmallDigit
unfolding effect
returns-in-SmallDigit c = is_row c.args.self.now c.points_at_digit.result _ _ c.in-SmallDigit.is (IfOk-weaker c.points_at_digit.result _ _ (λ out gives s at keys.
    let is : 0 + 5 * (reg s.core c.in-SmallDigit.x % 16) ≡ 5 * (reg s.core c.in-SmallDigit.x % 16) = omega arith in
    subst (λ i. Meets c.args.self.now.frames.now out s (Ok (record s { core = next (with_index i s.core) }))) is (gives s at keys)) c.points_at_digit.ensures)

pub returns-in-BigDigit : goal.returns-in-BigDigit
unfolding effect
returns-in-BigDigit c = is_row c.args.self.now c.if_super-in-BigDigit.result _ _ c.in-BigDigit.is (c.if_super-in-BigDigit.ensures _ c.points_at_digit-in-BigDigit.ensures)

pub returns-in-StoreFlags : goal.returns-in-StoreFlags
unfolding effect
returns-in-StoreFlags c = is_row c.args.self.now c.if_super-in-StoreFlags.result _ _ c.in-StoreFlags.is (c.if_super-in-StoreFlags.ensures _ c.stores_flags.ensures)

pub returns-in-LoadFlags : goal.returns-in-LoadFlags
unfolding effect
returns-in-LoadFlags c = is_row c.args.self.now c.if_super-in-LoadFlags.result _ _ c.in-LoadFlags.is (c.if_super-in-LoadFlags.ensures _ c.loads_flags.ensures)
