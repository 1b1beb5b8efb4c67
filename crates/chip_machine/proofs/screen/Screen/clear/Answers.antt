use Rattle.std.proofs.Common.{◌-◌, ◌==◌, arith, ap, ◌∙◌}
use Rattle.std.proofs.lemmas.List.{with_items_is}
use Rattle.std.proofs.lemmas.Nat.Bits.{bit_at-zero}
use Rattle.chip_machine.specs.inner.Stored.{in_rows}
use Rattle.chip_machine.specs.Points.{lights}
use Rattle.chip_machine.proofs.PointLemmas.{nothing_lit}
use Rattle.chip_machine.proofs.screen.Screen.clear.Goals as goal

pub returns : goal.returns
returns c =
    ap in_rows (with_items_is c.self.inside.rows c.darken.new.rows (omega arith))
    ∙ nothing_lit _ (λ column row left high. ap (λ bits. lights bits column) (c.darken.ensures row) ∙ ap (λ bit. bit == 1) (bit_at-zero (127 - column)))
