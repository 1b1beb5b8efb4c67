use Rattle.std.proofs.Common.{◌≡◌, drop, map}
use Rattle.chip_arguments.specs.inner.Built.{rows_in}
use Rattle.chip_arguments.specs.CommandArguments.{first_value_fault, new_file_fault}
use Rattle.chip_arguments.proofs.command_line.check_new_files.Given as goal

-- the first fault of the remaining arguments is the first fault of all arguments
abbrev pub invariant-loop-id : goal.invariant-loop-id
invariant-loop-id l =
    let rows = rows_in l.found in
    let ids = map (λ argument. argument.0.now) l.arguments in
    first_value_fault new_file_fault (drop l.id-index ids) rows ≡ first_value_fault new_file_fault ids rows
