-- The lines of a trace in each form (chosen by this project).
use Rattle.std.specs.Prelude.{ℕ, Bool, List, [], ◌∷◌, ◌++◌}
use Rattle.chip_machine.specs.State.{State}
use Rattle.chip_machine.specs.declared.quirks.Quirks.{Quirks}
use Rattle.chip_trace.specs.Columns.{header_line}
use Rattle.chip_trace.specs.Json.{json_line_of}
use Rattle.chip_trace.specs.Line.{line_of}
use Rattle.chip_trace.specs.Machine.{machine_lines}
use Rattle.chip_trace.specs.declared.column.Column.{Column}
use Rattle.chip_trace.specs.declared.form.Form.{Form}
use Rattle.chip_trace.specs.declared.form.Form.TheVariants.{Fields, Json}

-- the line of a step in a form
unfoldable pub row_of : Form → List Column → (step : ℕ) → State → (is_last : Bool) → List ℕ
row_of Fields columns step s is_last = line_of columns step s is_last
row_of Json columns step s is_last = json_line_of columns step s is_last

-- the header lines of a trace of a machine: the line that names the machine, if there is one, and the line
-- that names the columns; JSON has no header lines
abbrev pub header_lines : Form → Quirks → List Column → List (List ℕ)
header_lines Fields quirks columns = machine_lines quirks ++ header_line columns ∷ []
header_lines Json quirks columns = []
