use Rattle.std.proofs.Common.{◌≡◌, drop, map}
use Rattle.clap.specs.Words.{app_of}
use Rattle.chip_arguments.specs.CommandLine.{with_commands}
use Rattle.chip_arguments.specs.inner.Built.{app_of_row}
use Rattle.chip_arguments.proofs.commands.with_commands.Given as goal

abbrev pub invariant-loop-row : goal.invariant-loop-row
invariant-loop-row l =
    with_commands (app_of l.command) (map app_of_row (drop l.row-index l.rows))
    ≡ with_commands (app_of l.fn.command) (map app_of_row l.rows)
