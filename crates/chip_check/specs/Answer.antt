-- The answer to a property of a source, as `prove` prints it (chosen by this project).
--     met_words          the words if a script breaks the property, reaches an `ever`, or leads a `can` to a dead
--                        end
--     unmet_words        the words if no script does so within a number of steps
--     proved_words       the words if no script ever does so
--     scope_words        the words that follow a proof and state which machines it covers
--     never_words        both together, except that `always` gets no scope, because it covers only one rate
--     answer_words       the outcome in words
--     answer_line, answer_object, answer_text    the answer as a line, as a JSON object, and in the requested form
--     is_bad             whether a property is broken, an `ever` isn't reached, or a `can` has a dead end
use Rattle.std.specs.Prelude.{ℕ, Bool, true, false, List, [], ◌∷◌, ◌++◌, codes, if◌then◌else◌}
use Rattle.std.specs.Fmt.{decimal}
use Rattle.std.specs.List.{flat_map}
use Rattle.chip_explore.specs.declared.script.KeyEvent.{KeyEvent}
use Rattle.chip_explore.specs.declared.question.Outcome.{Outcome}
use Rattle.chip_explore.specs.declared.question.Outcome.TheVariants.{Found, Later, Within, Never}
use Rattle.chip_properties.specs.declared.stated.Kind.{Kind}
use Rattle.chip_properties.specs.declared.stated.Kind.TheVariants as kind
use Rattle.chip_check.specs.Json.{quoted}
use Rattle.chip_check.specs.declared.answer.Scope.{Scope}
use Rattle.chip_check.specs.declared.answer.Scope.TheVariants as scope

abbrev pub met_words : Kind → List ℕ
met_words kind.Ever = codes "reached"
met_words kind.Can = codes "dead end"
met_words other = codes "broken"

abbrev pub unmet_words : Kind → List ℕ
unmet_words kind.Ever = codes "not reached"
unmet_words kind.Can = codes "undecided"
unmet_words other = codes "unbroken"

-- nothing if a proof covers only the rate and the random bytes of the settings; otherwise what else it covers
abbrev pub scope_words : Scope → List ℕ
scope_words scope.AtRate = []
scope_words scope.AtAnySpeed = codes " at any speed"
scope_words scope.Anything = codes " for any keys, random bytes and speed"

abbrev pub proved_words : Kind → List ℕ
proved_words kind.Ever = codes "never reached"
proved_words kind.Can = codes "always"
proved_words other = codes "proved"

abbrev pub never_words : Kind → Scope → List ℕ
never_words kind.Can scope = proved_words kind.Can
never_words kind scope = proved_words kind ++ scope_words scope

-- broken, reached, or a dead end, at a step
abbrev pub met_at : Kind → ℕ → List ℕ
met_at kind step = met_words kind ++ codes " at step " ++ decimal step

-- not broken, not reached, or undecided, up to a step
abbrev pub unmet_up_to : Kind → ℕ → List ℕ
unmet_up_to kind step = unmet_words kind ++ codes " up to step " ++ decimal step

-- the outcome at the rate of the settings
abbrev pub words_at_rate : Kind → Outcome → List ℕ
words_at_rate kind (Found events step met) = met_at kind step
words_at_rate kind (Later events step met covered) =
    met_at kind step ++ codes ", " ++ unmet_up_to kind covered
words_at_rate kind (Within step) = unmet_up_to kind step
words_at_rate kind Never = never_words kind scope.AtRate

-- the outcome, if a proof may cover more machines than those at the rate of the settings
abbrev pub answer_words : Kind → Scope → Outcome → List ℕ
answer_words kind scope.AtRate outcome = words_at_rate kind outcome
answer_words kind scope outcome = never_words kind scope

-- the words, without their steps
abbrev pub word_at_rate : Kind → Outcome → List ℕ
word_at_rate kind (Found events step met) = met_words kind
word_at_rate kind (Later events step met covered) = met_words kind
word_at_rate kind (Within step) = unmet_words kind
word_at_rate kind Never = never_words kind scope.AtRate

abbrev pub answer_word : Kind → Scope → Outcome → List ℕ
answer_word kind scope.AtRate outcome = word_at_rate kind outcome
answer_word kind scope outcome = never_words kind scope

abbrev pub key_event : KeyEvent → List ℕ
key_event event =
    codes "{\"step\":" ++ decimal event.step ++ codes ",\"key\":" ++ decimal event.key
    ++ codes ",\"down\":" ++ (if event.down then codes "true" else codes "false") ++ codes "}"

abbrev pub further_event : KeyEvent → List ℕ
further_event event = codes "," ++ key_event event

-- key events, separated by commas
abbrev pub with_commas : List KeyEvent → List ℕ
with_commas [] = []
with_commas (event ∷ events) = key_event event ++ flat_map further_event events

abbrev pub key_events : List KeyEvent → List ℕ
key_events events = codes ",\"keys\":[" ++ with_commas events ++ codes "]"

-- the steps and the key events, as members of a JSON object
abbrev pub answer_members : Outcome → List ℕ
answer_members (Found events step met) =
    codes ",\"step\":" ++ decimal step ++ key_events events.items
answer_members (Later events step met covered) =
    codes ",\"step\":" ++ decimal step ++ codes ",\"covered\":" ++ decimal covered
    ++ key_events events.items
answer_members (Within step) = codes ",\"covered\":" ++ decimal step
answer_members Never = []

-- the name of the source, the property's line number, the words for the outcome, and the property
abbrev pub answer_line : (name : List ℕ) (line : ℕ) (text words : List ℕ) → List ℕ
answer_line name line text words =
    name ++ codes ":" ++ decimal line ++ codes ": " ++ words ++ codes ": " ++ text ++ codes "\n"

unfoldable pub answer_object : (name : List ℕ) (line : ℕ) (text : List ℕ) → Kind
    → Scope → Outcome → List ℕ
answer_object name line text kind scope outcome =
    codes "{\"line\":" ++ decimal line ++ codes ",\"property\":" ++ quoted text
    ++ codes ",\"answer\":\"" ++ answer_word kind scope outcome ++ codes "\""
    ++ answer_members outcome ++ codes ",\"file\":" ++ quoted name ++ codes "}\n"

abbrev pub answer_text : (is_json : Bool) (name : List ℕ) (line : ℕ) (text : List ℕ) → Kind
    → Scope → Outcome → List ℕ
answer_text is_json name line text kind scope outcome =
    if is_json then answer_object name line text kind scope outcome
    else answer_line name line text (answer_words kind scope outcome)

-- whether a property is broken, an `ever` isn't reached, or a `can` has a dead end
abbrev pub is_bad : Kind → Outcome → Bool
is_bad kind.Ever (Found events step met) = false
is_bad kind.Ever (Later events step met covered) = false
is_bad kind.Ever outcome = true
is_bad kind (Found events step met) = true
is_bad kind (Later events step met covered) = true
is_bad kind outcome = false
