use Rattle.chip_arguments.proofs.CommandLemmas.{IsBuilding}
use Rattle.chip_arguments.proofs.commands.CommandRow.command.Given as goal

abbrev pub invariant-loop-argument : goal.invariant-loop-argument
invariant-loop-argument l = IsBuilding l.self l.argument-index l.command
