use Rattle.chip_arguments.proofs.FaultLemmas.{after, stops}
use Rattle.chip_arguments.proofs.command_line.judged.Goals as goal

pub returns-in_err-check_numbers-clause-fault : goal.returns-in_err-check_numbers-clause-fault
returns-in_err-check_numbers-clause-fault c = stops _ _ c.from_residual.result _ c.from_residual.ensures.1 c.in_err-check_numbers.ensures

pub returns-in_err-check_new_files-clause-fault : goal.returns-in_err-check_new_files-clause-fault
returns-in_err-check_new_files-clause-fault c =
    let step = c.from_residual-in_err-check_new_files in
    after _ _ _ c.in_ok-check_numbers.ensures (stops _ _ step.result _ step.ensures.1 c.in_err-check_new_files.ensures)

pub returns-in_err-check_clashes-clause-fault : goal.returns-in_err-check_clashes-clause-fault
returns-in_err-check_clashes-clause-fault c =
    let step = c.from_residual-in_err-check_clashes in
    after _ _ _ c.in_ok-check_numbers.ensures (after _ _ _ c.in_ok-check_new_files.ensures (stops _ _ step.result _ step.ensures.1 c.in_err-check_clashes.ensures))

pub returns-in_err-check_color-clause-fault : goal.returns-in_err-check_color-clause-fault
returns-in_err-check_color-clause-fault c =
    let step = c.from_residual-in_err-check_color in
    after _ _ _ c.in_ok-check_numbers.ensures (after _ _ _ c.in_ok-check_new_files.ensures (after _ _ _ c.in_ok-check_clashes.ensures
    (stops _ _ step.result _ step.ensures.1 c.in_err-check_color.ensures)))

pub returns-clause-fault : goal.returns-clause-fault
returns-clause-fault c =
    after _ _ _ c.in_ok-check_numbers.ensures (after _ _ _ c.in_ok-check_new_files.ensures (after _ _ _ c.in_ok-check_clashes.ensures
    (after _ _ _ c.in_ok-check_color.ensures c.quirks_asked.ensures.fault)))
