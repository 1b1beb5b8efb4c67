-- The faults and warnings of a source as JSON: each is an object on a line of its own (chosen by this project).
use Rattle.std.specs.Prelude.{ℕ, ◌+◌, ◌==◌, ◌||◌, nat_lt, List, [], ◌∷◌, ◌++◌, if◌then◌else◌, codes}
use Rattle.std.specs.Fmt.{decimal}
use Rattle.std.specs.List.{flat_map}
use Rattle.std.specs.Str.Lossy.{utf8_lossy}
use Rattle.chip_lang.specs.declared.fault_place.Span.{Span}
use Rattle.chip_lang.specs.Show.{two_hex_digits}
use Rattle.chip_check.specs.declared.hint.Hint.{Hint}
use Rattle.chip_check.specs.declared.hint.HintKind.{HintKind}
use Rattle.chip_check.specs.declared.hint.HintKind.TheVariants.{Help, Note}
use Rattle.chip_check.specs.Check.{Print, IsCheckedIn}
use Rattle.chip_warnings.specs.declared.warning.Warning.{Warning}

-- a byte inside a string: a backslash comes before a quote and before a backslash, and a control byte is written by
-- its number
abbrev pub escaped : ℕ → List ℕ
escaped b =
    if (b == 34) || (b == 92) then 92 ∷ b ∷ []
    else (if nat_lt b 32 then codes "\\u00" ++ two_hex_digits b else b ∷ [])

-- a string in quotes, where U+FFFD replaces bytes that are not UTF-8
unfoldable pub quoted : List ℕ → List ℕ
quoted bytes = codes "\"" ++ flat_map escaped (utf8_lossy bytes) ++ codes "\""

-- the text before the sentence of a line of help
abbrev pub hint_prefix : HintKind → List ℕ
hint_prefix Help = []
hint_prefix Note = codes "note: "

-- a line of help as a string, without and with a comma before it
abbrev pub hint_string : Hint → List ℕ
hint_string hint = quoted (hint_prefix hint.kind ++ hint.sentence.items)

abbrev pub further_hint : Hint → List ℕ
further_hint hint = codes "," ++ hint_string hint

-- strings with a comma between each two
abbrev pub hint_strings : List Hint → List ℕ
hint_strings [] = []
hint_strings (hint ∷ hints) = hint_string hint ++ flat_map further_hint hints

-- The object of a place, and a newline. The column and the end count from 1, in bytes, and the end is one past the
-- last byte. A code has no byte that needs an escape in a string. `help` is the lines of help, as strings with a comma
-- between each two.
unfoldable pub object_with : (name : List ℕ) (number : ℕ) → Span → (code sentence help : List ℕ)
    → List ℕ
object_with name number span code sentence help =
    codes "{\"line\":" ++ decimal number ++ codes ",\"column\":" ++ decimal (span.start + 1)
    ++ codes ",\"end\":" ++ decimal (span.end + 1) ++ codes ",\"code\":\"" ++ code
    ++ codes "\",\"message\":" ++ quoted sentence ++ codes ",\"help\":[" ++ help
    ++ codes "],\"file\":" ++ quoted name ++ codes "}\n"

abbrev pub object : (name : List ℕ) (number : ℕ) → Span → (code sentence : List ℕ) → List Hint
    → List ℕ
object name number span code sentence hints =
    object_with name number span code sentence (hint_strings hints)

-- printing a place as JSON, without the text of the line
abbrev pub as_object : (name : List ℕ) → Print
as_object name number line span code sentence hints = object name number span code sentence hints

-- whether a text is the objects of a source's faults, in the order of the lines, and then those of these warnings
abbrev pub IsCheckJson : (name : List ℕ) (lines : List (List ℕ)) (warnings : List Warning) (text : List ℕ) → Type 0
IsCheckJson name lines warnings text = IsCheckedIn (as_object name) lines warnings text
