-- The output of `prove` for the properties that a source states (chosen by this project).
--     is_asked, asked_of, has_faults, unstated_line    which properties of a source are asked for,
--                        whether one of them can't be read, and the line that is named without one
--     text_at            the text of the property in a line
--     looks_for          a search that looks only for a property
--     IsForeseen, AnswersKind    whether the answer to a `can` holds, and whether that to any property does
--     NeverMetFrom       whether a target is never met with any keys, random bytes and speed
--     Answered, IsRight  a property with an answer, and whether the answer holds
--     proof_ending       how the program ends after the answers
--     IsReport           the report on a property that can't be read
--     counts_text, IsCounts    the last lines, with the numbers of facts and states
--     IsProofPrinted     what is printed of properties that are answered
use Rattle.std.specs.Prelude.{◌≡◌, ◌⊎◌, ℕ, ◌==◌, ◌||◌, Bool, true, false, IfSome, List, [], ◌∷◌, ◌++◌, codes, filter, map, Option, Some, None, unwrap_or, if◌then◌else◌}
use Rattle.std.specs.Fmt.{decimal}
use Rattle.std.specs.List.{All, flat_map, list_any}
use Rattle.std.specs.List.Sorted.{IsPermutation}
use Rattle.chip_arguments.specs.declared.command_line.ProveArguments.{ProveArguments}
use Rattle.chip_asm.specs.LineViews.{LineFacts, line_at}
use Rattle.chip_check.specs.Answer.{answer_text, is_bad}
use Rattle.chip_check.specs.Check.{AreTexts, Print}
use Rattle.chip_check.specs.Json.{quoted}
use Rattle.chip_check.specs.PropertyFaults.{IsPropertyFault, printed_as}
use Rattle.chip_analysis.specs.Exploring.{number_line}
use Rattle.chip_explore.specs.Answers.{Answers}
use Rattle.chip_explore.specs.Prospects.{Foresees, outcome_of}
use Rattle.chip_explore.specs.Speeds.{NeverAtAnySpeed}
use Rattle.chip_explore.specs.declared.prospect.Prospect.{Prospect}
use Rattle.chip_explore.specs.declared.property.Property.{Property}
use Rattle.chip_explore.specs.declared.target.Target.{Target}
use Rattle.chip_machine.specs.Start.{start_of}
use Rattle.chip_machine.specs.State.{State}
use Rattle.chip_machine.specs.declared.quirks.Quirks.{Quirks}
use Rattle.chip_verdicts.specs.Verdict.{NeverMet}
use Rattle.chip_check.specs.declared.answer.Scope.{Scope}
use Rattle.chip_check.specs.declared.answer.Scope.TheVariants as scope
use Rattle.chip_properties.specs.Lines.{property_text_of}
use Rattle.chip_properties.specs.declared.fault.PropertyFault.{PropertyFault}
use Rattle.chip_properties.specs.declared.stated.Stated.{Stated}
use Rattle.chip_host.specs.Printing.{Printed}
use Rattle.chip_host.specs.declared.ending.Ending.{Ending}
use Rattle.chip_host.specs.declared.ending.Ending.TheVariants.{Done, Faulty, Short}
use Rattle.chip_explore.specs.declared.question.Outcome.{Outcome}
use Rattle.chip_properties.specs.declared.stated.Kind.{Kind}
use Rattle.chip_properties.specs.declared.stated.Kind.TheVariants as kind

-- whether the property of a line is asked for; without a named line, each one is
abbrev pub is_asked : (only : Option ℕ) → (line : ℕ) → Bool
is_asked None line = true
is_asked (Some only) line = only == line

abbrev pub asked_of : (only : Option ℕ) → List Stated → List Stated
asked_of only stated = filter (λ one. is_asked only one.line) stated

abbrev pub has_faults : (only : Option ℕ) → List PropertyFault → Bool
has_faults only faults = list_any (λ fault. is_asked only fault.line) faults

-- the line that is named, if it states no property
abbrev pub unstated_line : (only : Option ℕ) → (asked : List Stated) → (has_faults : Bool) → Option ℕ
unstated_line only [] false = only
unstated_line only asked has_faults = None

-- the text of the property in a line, if there is such a line
abbrev pub stated_text : Option LineFacts → List ℕ
stated_text None = []
stated_text (Some line) = unwrap_or (property_text_of line.text) []

abbrev pub text_at : (lines : List (List ℕ)) → (number : ℕ) → List ℕ
text_at lines number = stated_text (line_at lines number)

-- the target with only this property: no stop and no address
abbrev pub looks_for : Property → Target
looks_for property = record {
  causes = 0;
  address = None;
  properties = record { ref_ptr = (0, 0); now = property ∷ [] };
}

-- a property, an answer, the machines that it covers, and whether memory ran out in its search
pub record Answered : Type 0 where
  pub stated : Stated
  pub outcome : Outcome
  pub scope : Scope
  pub is_short : Bool

-- the outcome says whether the property can be met from everywhere
pub record IsForeseen (rate keys : ℕ) (property : Property) (start : State) (outcome : Outcome) : Type 0 where
  pub prospect : Prospect
  pub is : outcome ≡ outcome_of prospect
  pub foreseen : Foresees rate keys (property ∷ []) start prospect

-- the outcome answers a property of this kind
abbrev pub AnswersKind : Kind → (rate keys : ℕ) → Property → State → Outcome → Type 0
AnswersKind kind.Can rate keys property start outcome = IsForeseen rate keys property start outcome
AnswersKind kind rate keys property start outcome =
    Answers rate keys (looks_for property) start outcome

-- with any keys, random bytes and speed, no machine with the image and the quirks of this one meets the target
pub record NeverMetFrom (target : Target) (start : State) : Type 0 where
  pub image : List ℕ
  pub tape : List ℕ
  pub quirks : Quirks
  pub starts : start ≡ start_of image tape quirks
  pub never : NeverMet image quirks target

-- the answer holds, for all machines that it covers
pub record IsRight (rate keys : ℕ) (start : State) (one : Answered) : Type 0 where
  pub answers : AnswersKind one.stated.kind rate keys one.stated.property start one.outcome
  pub any_speed : one.scope ≡ scope.AtAnySpeed
      → NeverAtAnySpeed keys (looks_for one.stated.property) start
  pub anything : one.scope ≡ scope.Anything → NeverMetFrom (looks_for one.stated.property) start

-- the output for an answer to a property of these lines
abbrev pub printed_answer : ProveArguments → (lines : List (List ℕ)) → Answered → List ℕ
printed_answer arguments lines one =
    answer_text arguments.is_json arguments.search.source.now one.stated.line
    (text_at lines one.stated.line) one.stated.kind one.scope one.outcome

abbrev pub has_bad : List Answered → Bool
has_bad given = list_any (λ one. is_bad one.stated.kind one.outcome) given

abbrev pub has_short : List Answered → Bool
has_short given = list_any (λ one. one.is_short) given

-- the ending of the program; memory that ran out takes precedence over a bad answer
abbrev pub proof_ending : (is_short is_bad : Bool) → Ending
proof_ending is_short is_bad = if is_short then Short else (if is_bad then Faulty else Done)

-- Some of the properties have these answers, and the others are left.
pub record AreAnswered (rate keys : ℕ) (start : State) (asked : List Stated)
    (given : List Answered) (left : List Stated) : Type 0 where
  pub all : IsPermutation asked (map (λ one. one.stated) given ++ left)
  pub right : All (IsRight rate keys start) given

-- the text for a property that can't be read; empty unless it is asked for
abbrev pub IsReportIf : (is_asked : Bool) → Print → Option LineFacts → PropertyFault → (text : List ℕ) → Type 0
IsReportIf true print (Some line) fault text = IsPropertyFault print line.text fault text
IsReportIf is_asked print line fault text = text ≡ []

abbrev pub IsReport : ProveArguments → (lines : List (List ℕ)) → PropertyFault → (text : List ℕ) → Type 0
IsReport arguments lines fault text =
    IsReportIf (is_asked arguments.only fault.line) (printed_as arguments.is_json arguments.search.source.now)
    (line_at lines fault.line) fault text

-- the line with the number of rows in the table of facts, if there are facts
abbrev pub facts_line : Option ℕ → List ℕ
facts_line None = []
facts_line (Some rows) = number_line (codes "facts ") rows

-- the same as a member of a JSON object
abbrev pub facts_member : Option ℕ → List ℕ
facts_member None = []
facts_member (Some rows) = codes ",\"facts\":" ++ decimal rows

abbrev pub short_member : (is_short : Bool) → List ℕ
short_member false = []
short_member true = codes ",\"out_of_memory\":true"

abbrev pub bound_member : (bound : Option (List ℕ)) → List ℕ
bound_member None = []
bound_member (Some bound) = codes ",\"ended_by\":\"" ++ bound ++ codes "\""

-- the last lines: the number of rows in the table of facts, and the most states that a search kept; as JSON also
-- whether memory ran out, and the bound at which a search ended early
abbrev pub counts_text : (is_json : Bool) (name : List ℕ) → (facts : Option ℕ) (states : ℕ)
    → (is_short : Bool) (bound : Option (List ℕ)) → List ℕ
counts_text false name facts states is_short bound =
    facts_line facts ++ number_line (codes "states ") states
counts_text true name facts states is_short bound =
    codes "{\"states\":" ++ decimal states ++ facts_member facts ++ short_member is_short
    ++ bound_member bound ++ codes ",\"file\":" ++ quoted name ++ codes "}\n"

-- a text is such last lines, with some numbers
pub record IsCounts (is_json : Bool) (name : List ℕ) (is_short : Bool) (text : List ℕ) : Type 0 where
  pub facts : Option ℕ
  pub states : ℕ
  pub bound : Option (List ℕ)
  pub named : IfSome bound (λ word.
      (word ≡ codes "seconds") ⊎ ((word ≡ codes "memory") ⊎ (word ≡ codes "states")))
  pub is : text ≡ counts_text is_json name facts states is_short bound

-- The output for these answers: before them the reports on the properties that can't be read, and after them how
-- many states the searches kept.
pub record IsProofPrinted (arguments : ProveArguments) (lines : List (List ℕ))
    (faults : List PropertyFault) (given : List Answered) (wanted : Printed) : Type 0 where
  pub reports : List ℕ
  pub counts : List ℕ
  pub reported : AreTexts (IsReport arguments lines) faults reports
  pub counted : IsCounts arguments.is_json arguments.search.source.now (has_short given) counts
  pub text : wanted.text ≡ reports ++ (flat_map (printed_answer arguments lines) given ++ counts)
  pub ending : wanted.ending
      ≡ proof_ending (has_short given) (has_faults arguments.only faults || has_bad given)
