use Rattle.chip_arguments.specs.inner.Built.{rows_in}
use Rattle.chip_arguments.specs.CommandArguments.{new_file_fault}
use Rattle.chip_arguments.proofs.FaultLemmas.{fails_here, goes_on}
use Rattle.chip_arguments.proofs.command_line.check_new_files.Goals as goal

pub loop-id-preserved : goal.loop-id-preserved
loop-id-preserved c =
    goes_on new_file_fault c.args.arguments.now (rows_in c.args.found.now) c.loop-id.id-index _ c.loop-id-test.true
    c.in_ok-check_new_file.ensures c.loop-id.invariant

pub returns-in_err-check_new_file : goal.returns-in_err-check_new_file
returns-in_err-check_new_file c =
    fails_here new_file_fault c.args.arguments.now (rows_in c.args.found.now) c.from_residual.result c.loop-id.id-index _ _
    c.from_residual.ensures.1 c.loop-id-test.true c.in_err-check_new_file.ensures c.loop-id.invariant
