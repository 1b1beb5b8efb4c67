use Rattle.std.proofs.Common.{refl}
use Rattle.std.proofs.lemmas.Result.{IfOk-weaker}
use Rattle.chip_arguments.proofs.CommandExamples.{chipbench_on_literals}
use Rattle.chip_arguments.proofs.OneCommand.{judged_alone, judged_by_all}
use Rattle.chip_arguments.proofs.commands.chipbench_for.Goals as goal

pub returns-in_ok-command-in-Some : goal.returns-in_ok-command-in-Some
unfolding chipbench_on_literals
returns-in_ok-command-in-Some c =
    IfOk-weaker c.subcommand.result _ _ (λ command. judged_alone c.in-Some.ensures c.in_ok-program-in-Some.ensures c.in_ok-command-in-Some.ensures refl) c.subcommand.ensures

pub returns-in-None : goal.returns-in-None
returns-in-None c = IfOk-weaker c.chipbench.result _ _ (judged_by_all c.args.word.now) c.chipbench.ensures
