-- The two formats in which findings in a source are printed (chosen by this project).
use Rattle.std.specs.Prelude.{◌≡◌, ℕ, ◌+◌, List, [], ◌∷◌, ◌++◌, codes}
use Rattle.std.specs.Fmt.{decimal}
use Rattle.chip_lang.specs.declared.fault_place.Span.{Span}
use Rattle.chip_check.specs.declared.hint.Hint.{Hint}
use Rattle.chip_check.specs.declared.hint.HintKind.TheVariants.{Help}
use Rattle.chip_check.specs.declared.printing.Form.{Form}
use Rattle.chip_check.specs.declared.printing.Form.TheVariants.{Text, Json}
use Rattle.chip_check.specs.Check.{Print, report}
use Rattle.chip_check.specs.Json.{as_object}

-- prints a place of a line in a format
abbrev pub print_in : Form → (name : List ℕ) → Print
print_in (Text is_painted) name = report is_painted name
print_in Json name = as_object name

-- the beginning of an object: its place, its code, and the key of its message
unfoldable pub object_start : (number : ℕ) → Span → (code : List ℕ) → List ℕ
object_start number span code =
    codes "{\"line\":" ++ decimal number ++ codes ",\"column\":" ++ decimal (span.start + 1)
    ++ codes ",\"end\":" ++ decimal (span.end + 1) ++ codes ",\"code\":\"" ++ code
    ++ codes "\",\"message\":"

-- whether the lines of help consist of a single line with this sentence
pub record IsHelp (sentence : List ℕ) (hints : List Hint) : Type 0 where
  pub hint : Hint
  pub alone : hints ≡ hint ∷ []
  pub kind : hint.kind ≡ Help
  pub says : hint.sentence.items ≡ sentence
