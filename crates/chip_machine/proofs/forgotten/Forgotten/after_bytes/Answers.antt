use Rattle.std.proofs.Common.{◌≡◌, ◌+◌, ◌<◌, ℕ, true, false, Result, Ok, Err, IfOk, ap, arith, subst, sym, ◌∙◌}
use Rattle.std.proofs.lemmas.Result.{IfOk-weaker}
use Rattle.chip_machine.specs.Forgotten.{has_byte, has_part, is_in_row, register_part, stored}
use Rattle.chip_machine.specs.Step.{effect}
use Rattle.chip_machine.proofs.Accesses.{accesses}
use Rattle.chip_machine.proofs.forgotten.Forgotten.after_bytes.Goals as goal

ok_always : {T E : Type 0} (P : Type 0) (r : Result T E) → P → IfOk r (λ _. P)
ok_always P (Ok x) p = p
ok_always P (Err e) p = tt

pub returns-then-written-eq0-clause-drawn : goal.returns-then-written-eq0-clause-drawn
returns-then-written-eq0-clause-drawn c on k above below =
    c.in_ok-loaded.ensures.drawn on k above
    (subst (λ (n : ℕ). k < c.args.processor.now.index + n) (accesses c.args.instr.now c.args.processor.now).0 below)

pub returns-then-written-eq0-clause-loaded : goal.returns-then-written-eq0-clause-loaded
returns-then-written-eq0-clause-loaded c place low was =
    c.in_ok-loaded.ensures.loaded place (subst (λ (n : ℕ). place < n) (accesses c.args.instr.now c.args.processor.now).0 low) was

pub returns-then-written-eq0-clause-stored : goal.returns-then-written-eq0-clause-stored
returns-then-written-eq0-clause-stored c place low was =
    let none : stored (effect c.args.instr.now c.args.processor.now) ≡ 0 =
    (accesses c.args.instr.now c.args.processor.now).1 ∙ sym c.bytes_stored-written.ensures.count ∙ c.if-written-eq0.true in
    absurd (omega arith)

pub returns-clause-drawn : goal.returns-clause-drawn
returns-clause-drawn c =
    ok_always _ c.with_stored.result (λ on k above below.
    c.in_ok-loaded.ensures.drawn on k above
    (subst (λ (n : ℕ). k < c.args.processor.now.index + n) (accesses c.args.instr.now c.args.processor.now).0 below))

pub returns-clause-bytes : goal.returns-clause-bytes
returns-clause-bytes c =
    let instr = c.args.instr.now in
    let processor = c.args.processor.now in
    IfOk-weaker c.with_stored.result _ _ (λ after h at was unwritten.
    h at (c.in_ok-loaded.ensures.bytes at ∙ was)
    (subst (λ (n : ℕ). is_in_row n c.bytes_stored-written.result at ≡ false) (sym c.index.ensures)
    (subst (λ (n : ℕ). is_in_row processor.index n at ≡ false) ((accesses instr processor).1 ∙ sym c.bytes_stored-written.ensures.count) unwritten))) c.with_stored.ensures.bytes

pub returns-clause-loaded : goal.returns-clause-loaded
returns-clause-loaded c =
    IfOk-weaker c.with_stored.result _ _ (λ after h place low was.
    h (register_part place) ∙ c.in_ok-loaded.ensures.loaded place (subst (λ (n : ℕ). place < n) (accesses c.args.instr.now c.args.processor.now).0 low) was) c.with_stored.ensures.parts

pub returns-clause-stored : goal.returns-clause-stored
returns-clause-stored c =
    let instr = c.args.instr.now in
    let processor = c.args.processor.now in
    IfOk-weaker c.with_stored.result _ _ (λ after h place low was.
    subst (λ (n : ℕ). has_byte after (n + place) ≡ true) c.index.ensures
    (h place (subst (λ (n : ℕ). place < n) ((accesses instr processor).1 ∙ sym c.bytes_stored-written.ensures.count) low)
    (ap (has_part c.args.before) (sym (c.digits_of.ensures.stored place)) ∙ was))) c.with_stored.ensures.stored
