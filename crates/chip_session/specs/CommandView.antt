-- The commands of the code, with their texts as lists of bytes (chosen by this project).
use Rattle.std.specs.Prelude.{◌≡◌, Result, Ok, Err}
use Rattle.chip_session.specs.Edits.{edit_of}
use Rattle.chip_session.specs.Commands.{Command, blank, edit, ask}
use Rattle.chip_session.specs.declared.command.CommandFault.{CommandFault}
use Rattle.chip_session.specs.declared.command.Command.{Command as Parsed}
use Rattle.chip_session.specs.declared.command.Command.TheVariants as parsed

abbrev pub command_view : Parsed → Command
command_view parsed.Blank = blank
command_view (parsed.Edit c) = edit (edit_of c)
command_view (parsed.Ask question) = ask question

-- the code reads a line as the definition does
abbrev pub Reads : Result Parsed CommandFault → Result Command CommandFault → Type 0
Reads (Ok command) reading = reading ≡ Ok (command_view command)
Reads (Err fault) reading = reading ≡ Err fault
