-- The properties that can't be read, as they are printed: as text, or as JSON objects (chosen by this project).
--     printed_as         prints findings as text without colours, or as JSON objects
--     inside_line        a place in a line; what lies beyond the end of the line is moved to that end
--     IsPropertyFault    the text for a property that can't be read
use Rattle.std.specs.Prelude.{◌≡◌, ℕ, Bool, true, false, List, ◌∷◌, length, max, min}
use Rattle.std.specs.Fmt.{decimal}
use Rattle.chip_lang.specs.declared.fault_place.Span.{Span}
use Rattle.chip_properties.specs.Faults.{number_of_property_fault, sentence_of_property_fault}
use Rattle.chip_properties.specs.declared.fault.PropertyFault.{PropertyFault}
use Rattle.chip_check.specs.Check.{Print, report}
use Rattle.chip_check.specs.Json.{as_object}
use Rattle.chip_check.specs.declared.hint.Hint.{Hint}

abbrev pub printed_as : (is_json : Bool) → (name : List ℕ) → Print
printed_as false name = report false name
printed_as true name = as_object name

abbrev pub inside_line : Span → (line : List ℕ) → Span
inside_line span line = record {
  start = min span.start (min span.end (length line));
  end = min span.end (length line);
}

-- whether a text is the text for a fault of this line, with some lines of help; a line outside a file has the number 1
abbrev pub IsPropertyFault : Print → (line : List ℕ) → PropertyFault → (text : List ℕ) → Type 0
IsPropertyFault print line fault text =
    (hints : List Hint) × (text ≡ print (max fault.line 1) line (inside_line fault.span line)
    (80 ∷ decimal (number_of_property_fault fault.code)) (sentence_of_property_fault fault.code) hints)
