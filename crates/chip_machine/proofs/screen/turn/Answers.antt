use Rattle.std.proofs.Common.{◌+◌, arith, refl}
use Rattle.chip_machine.specs.Points.{lights}
use Rattle.chip_machine.proofs.RowLemmas.{turned_on, turned_row}
use Rattle.chip_machine.proofs.screen.turn.Goals as goal

pub loop-row-preserved : goal.loop-row-preserved
loop-row-preserved c =
    let l = c.loop-row in
    turned_on c.args.from l.row (l.row + 1) (λ column row. lights c.args.stripe column) (λ column row. lights c.args.stripe column)
    c.args.rows.now l.rows _ l.met _ l.auto.row (omega arith) (λ _ _ _ _ _. refl)
    l.invariant (turned_row l.rows l.row c.args.stripe (omega arith) c.ranges.stripe.fits)
