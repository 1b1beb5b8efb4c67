use Rattle.std.proofs.Common.{◌≤◌, length, ap, ◌∙◌, sym, arith}
use Rattle.chip_machine.proofs.Notes.{length-row}
use Rattle.chip_machine.proofs.touch.Touch.len.Goals as goal

pub returns-clause-value : goal.returns-clause-value
returns-clause-value c =
    let room : c.self.inside.count ≤ length c.self.inside.addresses = omega (arith, c.self.told, c.self.invariant.0) in
    sym (length-row c.self.inside.addresses c.self.inside.count c.self.inside.row_start c.self.inside.row_len room) ∙ ap length c.self.view_is
