use Rattle.std.proofs.Common.{◌^◌, ◌*◌, ◌%◌, sym, subst}
use Rattle.chip_machine.proofs.StripeLemmas.{LightsRow, row_lights}
use Rattle.chip_machine.proofs.sprite.row_bits.Goals as goal

pub returns : goal.returns
returns c =
    subst (λ n. LightsRow (n * 2 ^ 96 % 2 ^ 128) c.args.high c.args.sprite.now c.args.row) (sym c.from.ensures)
    (row_lights c.args.high c.args.sprite.now c.args.row c.wide_pattern_at.result c.wide_pattern_at.ensures)
