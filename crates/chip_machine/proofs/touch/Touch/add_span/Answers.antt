use Rattle.std.proofs.Common.{◌+◌, ◌-◌, ◌≤◌, ◌≡◌, ◌++◌, take, length, arith, ap, sym, ◌∙◌}
use Rattle.std.proofs.lemmas.Slice.{take-put_mid}
use Rattle.std.proofs.lemmas.List.{places}
use Rattle.std.proofs.lemmas.List.FromFn.{length-range_with_len}
use Rattle.std.proofs.lemmas.Grind.{common_steps}
use Rattle.std.specs.List.{range_with_len}
use Rattle.chip_machine.specs.declared.limits.TheConstants.{TOUCHES}
use Rattle.chip_machine.proofs.Spans.{addresses_more}
use Rattle.chip_machine.proofs.Notes.{length-row}
use Rattle.chip_machine.proofs.touch.Touch.add_span.Goals as goal

pub invariant_of-self : goal.invariant_of-self
invariant_of-self c =
    let inside = c.self.inside in
    let room : inside.count ≤ length inside.addresses = omega (arith, c.self.told, c.self.invariant.0) in
    let held : length c.args.self.now ≡ inside.count + inside.row_len = sym (ap length c.self.view_is) ∙ length-row inside.addresses inside.count inside.row_start inside.row_len room in
    let size : inside.count + inside.row_len + c.args.bytes ≤ TOUCHES = omega (arith, held, c.requires.room) in
    let numbers : c.count_up.new.numbers ≡ range_with_len inside.row_start inside.row_len = c.count_up.ensures ∙ ap (range_with_len inside.row_start) (grind (arith, common_steps, places, c.self.told, size)) in
    let count : length c.count_up.new.numbers ≡ inside.row_len = ap length numbers ∙ length-range_with_len inside.row_start inside.row_len in
    let all = take-put_mid inside.count (inside.count + inside.row_len - inside.count) inside.addresses c.count_up.new.numbers (inside.count + inside.row_len) (ap (λ n. inside.count + n) (sym count)) room ∙ ap (λ xs. take inside.count inside.addresses ++ xs) numbers in
    (size, c.requires.in_memory, addresses_more _ (take inside.count inside.addresses) inside.row_start inside.row_len all c.self.invariant.1 c.self.invariant.2)
