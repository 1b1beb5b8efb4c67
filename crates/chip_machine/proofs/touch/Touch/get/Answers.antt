use Rattle.std.proofs.Common.{◌≤◌, ℕ, List, length, slice_get, ap, ◌∙◌, sym, arith}
use Rattle.chip_machine.proofs.Notes.{slice_get-row, slice_get-past_row}
use Rattle.chip_machine.proofs.touch.Touch.get.Goals as goal

pub returns-then-place-self-2-clause-value : goal.returns-then-place-self-2-clause-value
returns-then-place-self-2-clause-value c =
    let room : c.self.inside.count ≤ length c.self.inside.addresses = omega (arith, c.self.told, c.self.invariant.0) in
    sym (slice_get-row c.self.inside.addresses c.self.inside.count c.self.inside.row_start c.self.inside.row_len c.args.place room (omega arith) (omega arith))
    ∙ ap (λ (xs : List ℕ). slice_get xs c.args.place) c.self.view_is

pub returns-else-place-self-2-clause-value : goal.returns-else-place-self-2-clause-value
returns-else-place-self-2-clause-value c =
    let room : c.self.inside.count ≤ length c.self.inside.addresses = omega (arith, c.self.told, c.self.invariant.0) in
    sym (slice_get-past_row c.self.inside.addresses c.self.inside.count c.self.inside.row_start c.self.inside.row_len c.args.place room (omega arith) (omega arith))
    ∙ ap (λ (xs : List ℕ). slice_get xs c.args.place) c.self.view_is
