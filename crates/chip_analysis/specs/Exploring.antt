-- The question that `explore` is asked, and its output (chosen by this project).
--     IsFirstPart, AreParts   the parts of a text between its commas
--     IsSet                   the set of the numbers that such parts name
--     cause_named, key_named, warning_named  the number of a stop cause, of a key and of a warning
--     AsksSet, AsksCauses, AsksKeys          the set that an argument asks for
--     AsksProperty            the property that the arguments state, if they state one
--     address_of, target_asked               the address of a place, and what a search looks for
--     first_lines             the first lines of a search's answer
--     answer_lines            the same lines, where an answer at any speed may be asked for
--     excluded_lines, IsExclusionPrinted     what is printed where facts exclude what is looked for
--     AreLeft, left_line, AreLeftLines, AreStopsLeft     the stops that facts leave, and their lines
--     last_asked              the last step that an answer may name
--     IsSearchPrinted         what is printed of a search, and how the program ends
use Rattle.std.specs.Prelude.{◌≡◌, ℕ, ℤ, pos, ◌+◌, ◌-◌, ◌^◌, ◌&&◌, Bool, true, false, List, [], ◌∷◌, ◌++◌, codes, fold, length, map, nat_le, nat_lt, bit_or, Option, Some, None, option_copied, option_map, if◌then◌else◌}
use Rattle.std.specs.Borrow.{Bor}
use Rattle.std.specs.Fmt.{decimal}
use Rattle.memchr.specs.Find.{Nowhere, Passes, is_byte}
use Rattle.chip_arguments.specs.declared.command_line.ExploreArguments.{ExploreArguments}
use Rattle.chip_symbols.specs.Names.{Name, lookup_name, values_of}
use Rattle.chip_asm.specs.Program.{symbols_of}
use Rattle.chip_symbols.specs.declared.table.Symbol.{Symbol}
use Rattle.chip_cover.specs.Marks.{marked_listing}
use Rattle.chip_lang.specs.Line.{upper}
use Rattle.chip_facts.specs.Facts.{AreFacts}
use Rattle.chip_facts.specs.declared.table.Left.{Left}
use Rattle.chip_machine.specs.Limits.{MEMORY_BYTES}
use Rattle.chip_machine.specs.Numbers.{stop_number}
use Rattle.chip_machine.specs.declared.quirks.Quirks.{Quirks}
use Rattle.chip_machine.specs.declared.stop.Stop.{Stop}
use Rattle.chip_explore.specs.Causes.{is_wanted}
use Rattle.chip_explore.specs.declared.limits.TheConstants.{END}
use Rattle.chip_explore.specs.declared.question.Outcome.{Outcome}
use Rattle.chip_explore.specs.declared.question.Outcome.TheVariants.{Found, Later, Within, Never}
use Rattle.chip_explore.specs.declared.question.Explored.{Explored}
use Rattle.chip_explore.specs.declared.target.Target.{Target}
use Rattle.chip_explore.specs.declared.target.Met.{Met}
use Rattle.chip_explore.specs.declared.target.Met.TheVariants.{Cause, Address, Property}
use Rattle.chip_explore.specs.declared.property.Property.{Property as Wanted}
use Rattle.chip_properties.specs.Language.{IsProperty}
use Rattle.chip_properties.specs.SeenProperty.{seen_property}
use Rattle.chip_properties.specs.Tokens.{property_tokens}
use Rattle.chip_properties.specs.declared.stated.Kind.{Kind}
use Rattle.chip_properties.specs.declared.stated.Kind.TheVariants as kind
use Rattle.chip_session.specs.Commands.{number_spelled}
use Rattle.chip_trace.specs.Digits.{hex_word}
use Rattle.chip_host.specs.Printing.{Printed}
use Rattle.chip_host.specs.declared.ending.Ending.{Ending}
use Rattle.chip_host.specs.declared.ending.Ending.TheVariants.{Done, Faulty, Short}

abbrev pub comma : ℕ
comma = 44

-- the part of a text before its first comma, and what follows the comma, if there is one
abbrev pub IsFirstPart : (text part : List ℕ) → Option (List ℕ) → Type 0
IsFirstPart text part None =
    (text ≡ part) × Nowhere (Passes (is_byte comma) part) 0 (length part)
IsFirstPart text part (Some rest) =
    (text ≡ part ++ comma ∷ rest) × Nowhere (Passes (is_byte comma) part) 0 (length part)

-- the parts of a text between its commas
abbrev pub AreParts : List ℕ → List (List ℕ) → Type 0
AreParts text [] = ⊥
AreParts text (part ∷ []) = IsFirstPart text part None
AreParts text (part ∷ next ∷ more) =
    (rest : List ℕ) × IsFirstPart text part (Some rest) × AreParts rest (next ∷ more)

-- a set with the number of one more part; none if the part has no number
abbrev pub with_number : Option ℕ → Option ℕ → Option ℕ
with_number (Some set) number = option_map (λ k. bit_or set (2 ^ k)) number
with_number None number = None

-- the set of the numbers of a text's parts, each k at bit k; none if a part has no number
abbrev pub IsSet : (List ℕ → Option ℕ) → (text : List ℕ) → Option ℕ → Type 0
IsSet number text set =
    (parts : List (List ℕ)) × AreParts text parts
    × (set ≡ fold (λ taken part. with_number taken (number part)) (Some 0) parts)

-- the number of a digit, if it is from 0 to the given last one
abbrev pub digit_to : ℕ → ℕ → Option ℕ
digit_to last byte = if nat_le 48 byte && nat_le byte (48 + last) then Some (byte - 48) else None

-- S and a digit, 1 to 7
abbrev pub cause_named : List ℕ → Option ℕ
cause_named (s ∷ digit ∷ []) =
    if nat_le 83 s && nat_le s 83 && nat_le 49 digit then digit_to 7 digit else None
cause_named _ = None

-- W and a digit, 1 to 9, or P and a digit, 1 to 6, as 10 to 15
abbrev pub warning_named : List ℕ → Option ℕ
warning_named (letter ∷ digit ∷ []) =
    if nat_le 87 letter && nat_le letter 87 && nat_le 49 digit then digit_to 9 digit
    else (if nat_le 80 letter && nat_le letter 80 && nat_le 49 digit
    then option_map (λ k. 9 + k) (digit_to 6 digit) else None)
warning_named _ = None

-- a number in decimal, 0 to 15, or a letter A to F, of either case
abbrev pub key_named : List ℕ → Option ℕ
key_named (digit ∷ []) =
    if nat_le 65 digit && nat_le digit 70 then Some (10 + (digit - 65))
    else (if nat_le 97 digit && nat_le digit 102 then Some (10 + (digit - 97)) else digit_to 9 digit)
key_named (one ∷ digit ∷ []) =
    if nat_le 49 one && nat_le one 49 then option_map (λ k. 10 + k) (digit_to 5 digit) else None
key_named _ = None

-- the set that an argument asks for, or the usual one without an argument
abbrev pub AsksSet : (List ℕ → Option ℕ) → (usual : ℕ) → Option (List ℕ) → Option ℕ → Type 0
AsksSet number usual None set = set ≡ Some usual
AsksSet number usual (Some text) set = IsSet number text set

-- the stop causes S2 to S7
abbrev pub usual_causes : ℕ
usual_causes = 252

-- all sixteen keys
abbrev pub usual_keys : ℕ
usual_keys = 65535

-- the usual stop causes; none if a place or a property is looked for
abbrev pub causes_beside : (place never always : Option (List ℕ)) → ℕ
causes_beside None None None = usual_causes
causes_beside place never always = 0

-- the stop causes that a search looks for
abbrev pub AsksCauses : ExploreArguments → Option ℕ → Type 0
AsksCauses arguments causes =
    AsksSet cause_named
    (causes_beside (option_copied arguments.place) (option_copied arguments.never)
    (option_copied arguments.always)) (option_copied arguments.causes) causes

-- the keys that a player has
abbrev pub AsksKeys : ExploreArguments → Option ℕ → Type 0
AsksKeys arguments keys =
    AsksSet key_named usual_keys (option_copied arguments.search.allowed_keys) keys

-- one property, which a text states by itself, without a line of a source
abbrev pub StatesOne : Kind → (text : List ℕ) → (lines : List (List ℕ)) → List Wanted → Type 0
StatesOne kind text lines properties =
    (property : Wanted) × (properties ≡ property ∷ [])
    × IsProperty (values_of (symbols_of lines)) None kind (property_tokens text) (seen_property property)

abbrev pub AsksOne : (never always : Option (List ℕ)) → (lines : List (List ℕ)) → List Wanted → Type 0
AsksOne (Some text) always lines properties = StatesOne kind.Never text lines properties
AsksOne None (Some text) lines properties = StatesOne kind.Always text lines properties
AsksOne None None lines properties = properties ≡ []

-- the property that a search looks for, if the arguments state one
abbrev pub AsksProperty : ExploreArguments → (lines : List (List ℕ)) → List Wanted → Type 0
AsksProperty arguments lines properties =
    AsksOne (option_copied arguments.never) (option_copied arguments.always) lines properties

-- a number as an address, if it is from 0 to 4095
abbrev pub in_memory : ℤ → Option ℕ
in_memory (pos number) = if nat_lt number MEMORY_BYTES then Some number else None
in_memory number = None

-- the value of a name as an address, if it is one
abbrev pub value_in_memory : Option Symbol → Option ℕ
value_in_memory None = None
value_in_memory (Some symbol) = in_memory symbol.value

-- the address of a place: the number that it spells, or else the value of the name
abbrev pub address_by : (spelled : Option ℕ) → Option Symbol → Option ℕ
address_by (Some number) symbol = in_memory (pos number)
address_by None symbol = value_in_memory symbol

abbrev pub address_of : List (Name × Symbol) → (place : List ℕ) → Option ℕ
address_of names place =
    address_by (number_spelled place) (lookup_name names (map upper place))

-- the target of a search: a stop for one of these causes, a step at the place, if one is named, and these
-- properties
abbrev pub target_asked : (causes : ℕ) → (place : Option (List ℕ)) → Bor (List Wanted)
    → List (Name × Symbol) → Option Target
target_asked causes None properties names =
    Some (record { causes = causes; address = None; properties = properties })
target_asked causes (Some place) properties names =
    option_map (λ address. record { causes = causes; address = Some address; properties = properties })
    (address_of names place)

-- a word, a number and the end of the line
abbrev pub number_line : List ℕ → ℕ → List ℕ
number_line word number = word ++ decimal number ++ 10 ∷ []

abbrev pub cause_word : Stop → List ℕ
cause_word cause = 83 ∷ (48 + stop_number cause) ∷ 32 ∷ []

-- the word for what was met, before the step
abbrev pub met_word : Met → List ℕ
met_word (Cause cause) = cause_word cause
met_word Address = codes "reached "
met_word (Property k) = codes "broken "

-- the line of what was met: a word, the step, and the place of the step in the source
abbrev pub met_line : List ℕ → ℕ → (place : List ℕ) → List ℕ
met_line word step place = word ++ decimal step ++ place ++ 10 ∷ []

-- the first lines of a search's answer: either what was met, at which step, and how many key events lead
-- there, followed, if an earlier step may meet the target too, by the step up to which none does; or up to
-- which step none does; or that none ever does
abbrev pub first_lines : (place : List ℕ) → Outcome → List ℕ
first_lines place (Found events step met) =
    met_line (met_word met) step place ++ number_line (codes "keys ") (length events.items)
first_lines place (Later events step met covered) =
    met_line (met_word met) step place ++ number_line (codes "keys ") (length events.items)
    ++ number_line (codes "within ") covered
first_lines place (Within step) = number_line (codes "within ") step
first_lines place Never = codes "never\n"

-- the first lines, or with `--any-speed` the answer at any speed, if that is never
abbrev pub answer_lines : (is_any_speed : Bool) → (place : List ℕ) → Explored → List ℕ
answer_lines is_any_speed place explored =
    if is_any_speed && explored.is_at_any_speed then codes "never at any speed\n"
    else first_lines place explored.outcome

-- a script that was found ends the program as a fault of the source does
abbrev pub search_ending : Outcome → (is_short : Bool) → Ending
search_ending (Found events step met) is_short = Faulty
search_ending (Later events step met covered) is_short = Faulty
search_ending outcome is_short = if is_short then Short else Done

-- the listing of the lines with a mark at each line that is executed, if it is asked for
abbrev pub covering_text : (is_covering : Bool) → (executed : List Bool) → List (List ℕ) → List ℕ
covering_text is_covering executed lines =
    if is_covering then marked_listing executed lines else []

-- the answer if facts exclude what is looked for, with the number of rows in the table of facts
abbrev pub excluded_lines : (is_any_speed : Bool) → (rows : ℕ) → List ℕ
excluded_lines is_any_speed rows =
    (if is_any_speed then codes "never at any speed\n" else codes "never\n")
    ++ codes "for any keys, random bytes and speed\n" ++ number_line (codes "facts ") rows

pub record IsExclusionPrinted (is_any_speed : Bool) (wanted : Printed) : Type 0 where
  pub rows : ℕ
  pub text : wanted.text ≡ excluded_lines is_any_speed rows
  pub ending : wanted.ending ≡ Done

-- all stops that are left: with any keys, random bytes and speed, the machine stops at no other address and
-- for no other cause
abbrev pub AreLeft : (image : List ℕ) → Quirks → List Left → Type 0
AreLeft image quirks left = (executed : List Bool) × AreFacts image quirks left executed

-- the cause and the address of a stop, and its place in the source or in the image
abbrev pub left_line : (place : List ℕ) → Left → List ℕ
left_line place one = codes "left " ++ cause_word one.stop ++ hex_word one.pc ++ place ++ 10 ∷ []

-- the line of a stop, if its cause is looked for
abbrev pub IsLeftLine : (is_wanted : Bool) → Left → (text : List ℕ) → Type 0
IsLeftLine false one text = text ≡ []
IsLeftLine true one text = (place : List ℕ) × (text ≡ left_line place one)

-- the lines of the stops whose causes are looked for, one after another
abbrev pub AreLeftLines : (causes : ℕ) → List Left → (text : List ℕ) → Type 0
AreLeftLines causes [] text = text ≡ []
AreLeftLines causes (one ∷ others) text =
    (first rest : List ℕ) × (text ≡ first ++ rest)
    × IsLeftLine (is_wanted causes one.stop) one first × AreLeftLines causes others rest

-- the lines of the stops that facts leave; no line without facts
abbrev pub AreStopsLeft : (causes : ℕ) → Option (List Left) → (text : List ℕ) → Type 0
AreStopsLeft causes None text = text ≡ []
AreStopsLeft causes (Some left) text = AreLeftLines causes left text

-- the last step that an answer may name: the one that the arguments ask for, or the last below the end
abbrev pub last_asked : (steps : Option ℕ) → ℕ
last_asked None = END - 1
last_asked (Some step) = step

-- The output of a search: the answer, other lines (the other causes that it met, and how many states it
-- kept), the stops that facts leave, and the listing. No contract describes the other lines, nor the place in
-- the source or in the image that follows a step or an address.
pub record IsSearchPrinted (arguments : ExploreArguments) (lines : List (List ℕ)) (causes : ℕ)
    (left : Option (List Left)) (explored : Explored) (wanted : Printed) : Type 0 where
  pub place : List ℕ
  pub others : List ℕ
  pub stops : List ℕ
  pub text : wanted.text
      ≡ answer_lines arguments.search.is_any_speed place explored ++ others ++ stops
      ++ covering_text arguments.is_covering explored.executed lines
  pub listed : AreStopsLeft causes left stops
  pub ending : wanted.ending ≡ search_ending explored.outcome explored.is_short
