-- The effects of each command that the arguments can ask for (chosen by this project).
--     WritesBy                       the file that was written
--     PrintsTable                    the table printed for the lines of a source
--     Debugs, Assembles, Tells, Runs, Traces, Pictures    the effects of each command
--     Does                           the effects of a command line
--     Performs, ShowsHelp, ShowsVersion   the effects of the program's arguments
use Rattle.std.specs.Prelude.{◌≡◌, ◌≢◌, ◌⊎◌, ℕ, ◌≤◌, min, Bool, true, false, List, [], length, Option, Some, None, MatchOption, Ok, if◌then◌else◌}
use Rattle.std.specs.Borrow.{Bor}
use Rattle.chip_asm.specs.Lines.{lines_of, open_fault}
use Rattle.chip_asm.specs.Program.{image_of}
use Rattle.chip_views.specs.declared.picture.Letters.TheVariants.{Blocks, Plain}
use Rattle.chip_arguments.specs.CommandArguments.{AsksFor}
use Rattle.chip_session.specs.Session.{Session}
use Rattle.std.specs.Str.{str_to_ascii_lowercase}
use Rattle.std.specs.Str.Lines.{lines}
use Rattle.chip_trace.specs.Columns.{header_line, usual_columns}
use Rattle.chip_trace.specs.Header.{header_fault}
use Rattle.chip_trace.specs.declared.column.Column.{Column}
use Rattle.chip_trace.specs.declared.form.Form.TheVariants.{Fields, Json}
use Rattle.chip_trace.specs.declared.header.HeaderError.{HeaderError}
use Rattle.chip_bench.specs.Tracing.{IsCompared, below_machine, header_of, lines_after, printed_trace}
use Rattle.chip_bench.specs.declared.tracing.Shown.{Shown}
use Rattle.chip_pages.specs.Pages.{IsContents, IsExplained}
use Rattle.chip_pages.specs.Licences.{licences_text}
use Rattle.chip_arguments.specs.Version.{version_text}
use Rattle.chip_host.specs.Printing.{Printed, IfOpens, Streams, PrintsSuch, Prints, ending_with, printed_faults, printed, Fails}
use Rattle.chip_bench.specs.Printing.{WithSession, printed_picture, printed_run, printed_table}
use Rattle.chip_bench.specs.Running.{AnswersScript}
use Rattle.chip_host.specs.Endings.{IsUnread, IsUnreadWithin, Outcome, IsShort, IsUnsettled, IsFileWritten}
use Rattle.chip_host.specs.declared.limits.TheConstants.{TRACE_FILE_BYTES}
use Rattle.chip_host.specs.SettingArguments.{settings_asked}
use Rattle.chip_session.specs.Settings.{SessionSettings}
use Rattle.chip_session.specs.Tally.{Tally}
use Rattle.chip_bench.specs.Testing.{Tests}
use Rattle.chip_arguments.specs.declared.command_line.CommandLine.{CommandLine}
use Rattle.chip_arguments.specs.declared.command_line.CommandLine.TheVariants as line
use Rattle.chip_arguments.specs.declared.command_line.PictureArguments.{PictureArguments}
use Rattle.chip_arguments.specs.declared.command_line.RunArguments.{RunArguments}
use Rattle.chip_arguments.specs.declared.command_line.SettingArguments.{SettingArguments}
use Rattle.chip_arguments.specs.declared.command_line.TraceArguments.{TraceArguments}
use Rattle.chip_host.specs.declared.ending.Ending.{Ending}
use Rattle.chip_host.specs.declared.ending.Ending.TheVariants.{Done}
use Rattle.chip_host.specs.declared.ending.Failure.{Failure}
use Rattle.chip_host.specs.declared.ending.Failure.TheVariants as failure
use Rattle.chip_bench.specs.declared.output.Table.TheVariants.{Listing, Symbols}
use Rattle.chip_session.specs.declared.picture.PictureForm.{PictureForm}
use Rattle.chip_session.specs.declared.picture.PictureForm.TheVariants as form
use Rattle.chip_host.specs.Reading.{AsSource, Declined, FromSource, FromGiven, IfSettled, WithAsked}
use Rattle.chip_analysis.specs.Commands.{Checks, Explores, Proves}

-- the part of a run that a trace with these columns shows; if the arguments specify a first step
-- after the last one, the trace begins at the last step
abbrev pub shown_by : TraceArguments → List Column → Shown
shown_by arguments columns = record {
  columns = columns;
  form = if arguments.is_json then Json else Fields;
  from = min arguments.from arguments.run.steps;
  to = arguments.run.steps;
}

-- the page about a code, or the list of all codes if no code is given
abbrev pub IsExplanation : Option (Bor (List ℕ)) → Printed → Type 0
IsExplanation None wanted = IsContents wanted.text × (wanted.ending ≡ Done)
IsExplanation (Some code) wanted = IsExplained code.now (Some wanted.text) × (wanted.ending ≡ Done)

-- there is no page about the code, or memory ran out
abbrev pub IsUnexplained : Option (Bor (List ℕ)) → Failure → Type 0
IsUnexplained None why = IsShort why
IsUnexplained (Some code) why = IsShort why ⊎ (IsExplained code.now None × (why ≡ failure.NoPage code))

-- The files that were written, and the text that was printed.
module _ {W : Type 0} (contents : W → Option (List ℕ)) (out_old out_new : Tally W) where
  -- If there is something to write, its file was written or the write failed; otherwise this text is printed instead.
  abbrev pub WritesBy : Ending → Printed → Bor (List ℕ) → Outcome → Type 0
  WritesBy Done wanted name ended = IsFileWritten name ended × (out_new ≡ out_old)
  WritesBy ending wanted name ended = Prints contents out_old out_new wanted ended

  abbrev pub WritesPicture : Printed → Bor (List ℕ) → Outcome → Type 0
  WritesPicture wanted name ended = WritesBy wanted.ending wanted name ended ⊎ Fails contents out_old out_new IsShort ended

  -- the output for the lines of a source, if it opens
  abbrev pub PrintsTable : (printed_by : List (List ℕ) → Printed) → (source : List ℕ) → Outcome → Type 0
  PrintsTable printed_by source ended =
      IfOpens contents out_old out_new (open_fault source)
      (Prints contents out_old out_new (printed_by (lines_of source))) ended

  -- `picture`: without a file, the picture is printed. If two files are named, the second is written
  -- only if the first was. In a file, each pixel of the screen is `scale` pixels wide and high.
  abbrev pub PicturesBy : (pictured : PictureForm → Printed) → (is_ascii : Bool)
      → (scale : ℕ) → (bitmap png : Option (Bor (List ℕ))) → Outcome → Type 0
  PicturesBy pictured is_ascii scale None None ended =
      Prints contents out_old out_new (pictured (form.Text (if is_ascii then Plain else Blocks))) ended
  PicturesBy pictured is_ascii scale (Some bitmap) None ended =
      WritesPicture (pictured (form.ScaledBitmap scale)) bitmap ended
  PicturesBy pictured is_ascii scale None (Some png) ended =
      WritesPicture (pictured (form.ScaledPng scale)) png ended
  PicturesBy pictured is_ascii scale (Some bitmap) (Some png) ended =
      (WritesPicture (pictured (form.ScaledBitmap scale)) bitmap ended × (ended ≢ Ok Done))
      ⊎ WritesPicture (pictured (form.ScaledPng scale)) png ended

  -- the lines of a session's run, or where they first differ from the lines of another trace
  abbrev pub ShowsTrace : Shown → (theirs : Option (List (List ℕ))) → Session → Outcome → Type 0
  ShowsTrace shown None session ended =
      Streams contents out_old out_new (printed_trace session shown) ended
  ShowsTrace shown (Some theirs) session ended =
      PrintsSuch contents out_old out_new (IsCompared session shown theirs) ended

  -- the comparison of a run with another trace, whose lines consist of fields, and whose header
  -- names the columns
  abbrev pub TracesBeside : TraceArguments → SessionSettings → (keys source : List ℕ)
      → (name : Bor (List ℕ)) → (theirs : List (List ℕ)) → Outcome → Type 0
  TracesBeside arguments settings keys source name theirs ended =
      let columned = below_machine theirs in
      ((columns : List Column) × (header_line columns ≡ str_to_ascii_lowercase (header_of columned))
      × WithSession contents out_old out_new settings source keys
      (ShowsTrace (record (shown_by arguments columns) { form = Fields })
      (Some (lines_after columned))) ended)
      ⊎ ((fault : HeaderError) × (header_fault (header_of columned) ≡ Some fault)
      × Fails contents out_old out_new (λ why. why ≡ failure.BadTrace name fault) ended)
      ⊎ Fails contents out_old out_new IsShort ended

  -- `trace`
  abbrev pub TracesBy : TraceArguments → (against : Option (Bor (List ℕ))) → SessionSettings
      → (keys source : List ℕ) → Outcome → Type 0
  TracesBy arguments None settings keys source ended =
      WithSession contents out_old out_new settings source keys
      (ShowsTrace (shown_by arguments (usual_columns arguments.sums)) None) ended
  TracesBy arguments (Some name) settings keys source ended =
      ((bytes : List ℕ) × (length bytes ≤ TRACE_FILE_BYTES)
      × TracesBeside arguments settings keys source name (lines bytes) ended)
      ⊎ Fails contents out_old out_new (IsUnreadWithin TRACE_FILE_BYTES name) ended

-- The effects of the commands.
module _ {R W : Type 0} (remaining : R → Option (List ℕ)) (contents : W → Option (List ℕ))
    (in_old in_new : Tally R) (out_old out_new : Tally W) where
  -- `debug`: a session on a source, or on the empty source if none is named, unless the settings are bad
  abbrev pub Debugs : Option (Bor (List ℕ)) → (is_image : Bool) → SettingArguments → Outcome → Type 0
  Debugs None is_image arguments ended =
      MatchOption (settings_asked arguments)
      (Declined remaining in_old in_new (out_new ≡ out_old) IsUnsettled ended)
      (λ settings. AnswersScript remaining contents settings [] in_old in_new out_old out_new ended)
  Debugs (Some name) is_image arguments ended =
      IfSettled remaining in_old in_new (out_new ≡ out_old) (settings_asked arguments) (λ settings ended.
      ((bytes : List ℕ) × AsSource is_image name ((in_new ≡ in_old) × (out_new ≡ out_old)) (λ source.
      AnswersScript remaining contents settings source in_old in_new out_old out_new) bytes ended)
      ⊎ Declined remaining in_old in_new (out_new ≡ out_old) (IsUnread name) ended) ended

  -- `asm`: if the source has an image, its file was written or the write failed; otherwise the faults are printed
  abbrev pub Assembles : Bor (List ℕ) → Bor (List ℕ) → Outcome → Type 0
  Assembles source name ended =
      FromSource remaining in_old in_new (out_new ≡ out_old) source (λ bytes.
      IfOpens contents out_old out_new (open_fault bytes)
      (WritesBy contents out_old out_new (ending_with (image_of (lines_of bytes)))
      (printed_faults (lines_of bytes)) name)) ended

  -- `list` and `syms`: the output for the lines of the source, or of an image if `is_image` is true
  abbrev pub Tells : (printed_by : List (List ℕ) → Printed) → (is_image : Bool) → Bor (List ℕ) → Outcome
      → Type 0
  Tells printed_by is_image source ended =
      FromGiven remaining in_old in_new (out_new ≡ out_old) is_image source
      (PrintsTable contents out_old out_new printed_by) ended

  -- `run`
  abbrev pub Runs : RunArguments → Outcome → Type 0
  Runs arguments ended =
      WithAsked remaining in_old in_new (out_new ≡ out_old) arguments (λ settings keys source.
      WithSession contents out_old out_new settings source keys
      (λ session. Prints contents out_old out_new (printed_run session arguments.steps))) ended

  -- `trace`
  abbrev pub Traces : TraceArguments → Outcome → Type 0
  Traces arguments ended =
      WithAsked remaining in_old in_new (out_new ≡ out_old) arguments.run
      (TracesBy contents out_old out_new arguments arguments.against) ended

  -- `picture`
  abbrev pub Pictures : PictureArguments → Outcome → Type 0
  Pictures arguments ended =
      WithAsked remaining in_old in_new (out_new ≡ out_old) arguments.run (λ settings keys source.
      WithSession contents out_old out_new settings source keys
      (λ session. PicturesBy contents out_old out_new (printed_picture session arguments.run.steps)
      arguments.ascii arguments.scale arguments.bitmap arguments.png)) ended

  -- The effects of a command line; `takes_color` is whether the output accepts colours. `dis` prints
  -- the source of an image that isn't too long, and `explain` a page or the list of all codes.
  abbrev pub Does : (takes_color : Bool) → CommandLine → Outcome → Type 0
  Does takes_color (line.Debug source is_image is_quiet arguments) ended = Debugs source is_image arguments ended
  Does takes_color (line.Asm source image) ended = Assembles source image ended
  Does takes_color (line.List source is_image is_hex) ended =
      Tells (printed_table Listing is_hex) is_image source ended
  Does takes_color (line.Syms source is_hex) ended = Tells (printed_table Symbols is_hex) false source ended
  Does takes_color (line.Check arguments) ended =
      Checks remaining contents in_old in_new out_old out_new takes_color arguments ended
  Does takes_color (line.Dis image) ended =
      FromGiven remaining in_old in_new (out_new ≡ out_old) true image
      (λ source. Prints contents out_old out_new (printed source Done)) ended
  Does takes_color (line.Run arguments) ended = Runs arguments ended
  Does takes_color (line.Trace arguments) ended = Traces arguments ended
  Does takes_color (line.Picture arguments) ended = Pictures arguments ended
  Does takes_color (line.Test arguments) ended = Tests arguments ended × (in_new ≡ in_old)
  Does takes_color (line.Explore arguments) ended =
      Explores remaining contents in_old in_new out_old out_new arguments ended
  Does takes_color (line.Prove arguments) ended =
      Proves remaining contents in_old in_new out_old out_new arguments ended
  Does takes_color (line.Explain code) ended =
      (PrintsSuch contents out_old out_new (IsExplanation code) ended
      ⊎ Fails contents out_old out_new (IsUnexplained code) ended) × (in_new ≡ in_old)
  Does takes_color line.Licences ended =
      Prints contents out_old out_new (printed licences_text Done) ended × (in_new ≡ in_old)

  -- the effects of valid arguments: the program did what they specify, unless memory ran out while
  -- they were parsed
  abbrev pub Performs : (takes_color : Bool) → List (List ℕ) → Outcome → Type 0
  Performs takes_color arguments ended =
      ((asked : CommandLine) × AsksFor arguments asked × Does takes_color asked ended)
      ⊎ Declined remaining in_old in_new (out_new ≡ out_old) IsShort ended

  -- the effect of a request for help: the program printed a text
  abbrev pub ShowsHelp : Outcome → Type 0
  ShowsHelp ended =
      ((text : List ℕ) × Prints contents out_old out_new (printed text Done) ended)
      × (in_new ≡ in_old)

  -- the effect of a request for the version
  abbrev pub ShowsVersion : Outcome → Type 0
  ShowsVersion ended =
      Prints contents out_old out_new (printed version_text Done) ended × (in_new ≡ in_old)
