use Rattle.std.proofs.Common.{ℕ, ◌-◌, ◌==◌, List, get_or, ap, ◌∙◌}
use Rattle.std.proofs.lemmas.List.{get_or-replicate}
use Rattle.std.proofs.lemmas.Nat.Bits.{bit_at-zero}
use Rattle.chip_machine.specs.Points.{lights}
use Rattle.chip_machine.proofs.PointLemmas.{nothing_lit}
use Rattle.chip_machine.proofs.screen.Screen.new.Goals as goal

pub returns : goal.returns
returns c =
    nothing_lit _ (λ column row left high.
    ap (λ (rows : List ℕ). lights (get_or rows row 0) column) (c.in_ok-rows.ensures.items_if_clones_equal (λ y e. e))
    ∙ ap (λ bits. lights bits column) (get_or-replicate 64 row 0 0 high)
    ∙ ap (λ bit. bit == 1) (bit_at-zero (127 - column)))
