use Rattle.chip_arguments.proofs.CommandLemmas.{with_row}
use Rattle.chip_arguments.proofs.commands.with_commands.Goals as goal

pub loop-row-preserved : goal.loop-row-preserved
loop-row-preserved c =
    with_row c.args.rows.now c.loop-row.row-index _ c.loop-row-test.true c.loop-row.invariant c.in_ok-command.ensures c.in_ok-command-2.ensures
