use Rattle.chip_arguments.proofs.CommandLemmas.{begins, with_argument}
use Rattle.chip_arguments.proofs.commands.CommandRow.command.Goals as goal

pub loop-argument-init : goal.loop-argument-init
loop-argument-init c = begins c.args.self.now _ c.new_command-command.ensures

pub loop-argument-preserved : goal.loop-argument-preserved
loop-argument-preserved c =
    with_argument c.build.result c.loop-argument.argument-index _ c.loop-argument-test.true c.loop-argument.invariant
    c.build.ensures.rule c.build.ensures.local c.in_ok-command.ensures
