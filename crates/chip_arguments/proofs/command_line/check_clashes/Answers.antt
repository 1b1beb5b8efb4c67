use Rattle.chip_arguments.proofs.FaultLemmas.{after, stops}
use Rattle.chip_arguments.proofs.command_line.check_clashes.Goals as goal

pub returns-in_err-check_clash : goal.returns-in_err-check_clash
returns-in_err-check_clash c = stops _ _ c.from_residual.result _ c.from_residual.ensures.1 c.in_err-check_clash.ensures

pub returns-in_err-check_clash-2 : goal.returns-in_err-check_clash-2
returns-in_err-check_clash-2 c =
    let step = c.from_residual-in_err-check_clash-2 in
    after _ _ _ c.in_ok-check_clash.ensures (stops _ _ step.result _ step.ensures.1 c.in_err-check_clash-2.ensures)

pub returns-in_err-check_clash-3 : goal.returns-in_err-check_clash-3
returns-in_err-check_clash-3 c =
    let step = c.from_residual-in_err-check_clash-3 in
    after _ _ _ c.in_ok-check_clash.ensures (after _ _ _ c.in_ok-check_clash-2.ensures (stops _ _ step.result _ step.ensures.1 c.in_err-check_clash-3.ensures))

pub returns-in_err-check_both : goal.returns-in_err-check_both
returns-in_err-check_both c =
    let step = c.from_residual-in_err-check_both in
    after _ _ _ c.in_ok-check_clash.ensures (after _ _ _ c.in_ok-check_clash-2.ensures (after _ _ _ c.in_ok-check_clash-3.ensures
    (stops _ _ step.result _ step.ensures.1 c.in_err-check_both.ensures)))

pub returns : goal.returns
returns c =
    after _ _ _ c.in_ok-check_clash.ensures (after _ _ _ c.in_ok-check_clash-2.ensures (after _ _ _ c.in_ok-check_clash-3.ensures
    (after _ _ _ c.in_ok-check_both.ensures c.check_scale.ensures)))
