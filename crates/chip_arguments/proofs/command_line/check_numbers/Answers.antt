use Rattle.chip_arguments.specs.inner.Built.{rows_in}
use Rattle.chip_arguments.specs.CommandArguments.{number_fault}
use Rattle.chip_arguments.proofs.FaultLemmas.{fails_here, goes_on}
use Rattle.chip_arguments.proofs.command_line.check_numbers.Goals as goal

pub loop-id-preserved : goal.loop-id-preserved
loop-id-preserved c =
    goes_on number_fault c.args.arguments.now (rows_in c.args.found.now) c.loop-id.id-index _ c.loop-id-test.true
    c.in_ok-check_number.ensures c.loop-id.invariant

pub returns-in_err-check_number : goal.returns-in_err-check_number
returns-in_err-check_number c =
    fails_here number_fault c.args.arguments.now (rows_in c.args.found.now) c.from_residual.result c.loop-id.id-index _ _
    c.from_residual.ensures.1 c.loop-id-test.true c.in_err-check_number.ensures c.loop-id.invariant
