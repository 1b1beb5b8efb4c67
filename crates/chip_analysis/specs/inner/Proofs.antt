-- Definitions for the private contracts of `prove` (chosen by this project).
--     head_of, IsLeft   the properties that aren't answered yet, as the code has them
--     is_can            whether a property asks whether it can be met from everywhere
--     missing_line      the line that the arguments name, if no property is asked for
--     met_property      which of that many properties a search met
--     IsUnmet           a search met nothing
--     searched_scope    the machines that the answer of a search covers
--     AreFactsFrom      facts about the machines with the image and the quirks of this one
--     IsExcluded        facts exclude the property at a place
--     IsNext            the next answer is right: for the property at the place, or for all
--     WritesAll         a text was written, or a front of it if a write failed or memory ran out
--     WritesUpTo        the same, but something else may have hindered the rest
--     printed_head      what is printed of a property
--     IsAnswering       the result of answering some properties
use Rattle.std.specs.Prelude.{◌≡◌, ◌⊎◌, ℕ, ◌<◌, ◌||◌, Bool, true, false, List, [], length, map, nat_lt, Option, Some, None, MatchOption, Result, Ok, Err, IfOk, IfSome, IsErrAnd, slice_get, if◌then◌else◌}
use Rattle.std.specs.List.{flat_map}
use Rattle.chip_arguments.specs.declared.command_line.ProveArguments.{ProveArguments}
use Rattle.chip_explore.specs.declared.property.Property.{Property}
use Rattle.chip_explore.specs.declared.question.Outcome.{Outcome}
use Rattle.chip_explore.specs.declared.question.Outcome.TheVariants.{Found, Later, Within, Never}
use Rattle.chip_explore.specs.declared.target.Met.{Met}
use Rattle.chip_explore.specs.declared.target.Met.TheVariants as met
use Rattle.chip_facts.specs.Reached.{IsByteTape}
use Rattle.chip_facts.specs.Rows.{HoldFacts}
use Rattle.chip_facts.specs.declared.facts.Facts.{Facts}
use Rattle.chip_machine.specs.Start.{start_of}
use Rattle.chip_machine.specs.State.{State}
use Rattle.chip_machine.specs.declared.quirks.Quirks.{Quirks}
use Rattle.chip_properties.specs.declared.stated.Kind.{Kind}
use Rattle.chip_properties.specs.declared.stated.Kind.TheVariants as kind
use Rattle.chip_properties.specs.declared.stated.Stated.{Stated}
use Rattle.chip_session.specs.Tally.{Tally}
use Rattle.chip_session.specs.Writing.{Breaks, Writes}
use Rattle.chip_analysis.specs.Commands.{IsScriptUnwritten}
use Rattle.chip_host.specs.Printing.{WritesFront}
use Rattle.chip_analysis.specs.Proving.{Answered, AreAnswered, IsRight, has_bad, has_short, looks_for, printed_answer, text_at}
use Rattle.chip_check.specs.Answer.{answer_text, is_bad}
use Rattle.chip_check.specs.declared.answer.Scope.{Scope}
use Rattle.chip_check.specs.declared.answer.Scope.TheVariants as scope
use Rattle.chip_verdicts.specs.Verdict.{NeverMet}
use Rattle.chip_host.specs.declared.ending.Failure.{Failure}
use Rattle.chip_host.specs.declared.ending.Failure.TheVariants as failure
use Rattle.chip_analysis.specs.declared.proving.Head.{Head}
use Rattle.chip_analysis.specs.declared.proving.Left.{Left}
use Rattle.chip_analysis.specs.declared.proving.Told.{Told}
use Rattle.chip_analysis.specs.declared.proving.Verdict.{Verdict}

abbrev pub head_of : Stated → Head
head_of one = record { line = one.line; kind = one.kind }

pub record IsLeft (asked : List Stated) (left : Left) : Type 0 where
  pub heads : left.heads.items ≡ map head_of asked
  pub properties : left.properties.items ≡ map (λ one. one.property) asked

abbrev pub is_can : Kind → Bool
is_can kind.Can = true
is_can kind = false

abbrev pub property_met : Met → (count : ℕ) → Option ℕ
property_met (met.Property place) count = if nat_lt place count then Some place else None
property_met other count = None

abbrev pub met_property : Outcome → (count : ℕ) → Option ℕ
met_property (Found events step met) count = property_met met count
met_property (Later events step met covered) count = property_met met count
met_property (Within n) count = None
met_property Never count = None

-- the line that the arguments name, if no property is asked for
abbrev pub missing_line : (only : Option ℕ) → (is_empty is_faulty : Bool) → Option ℕ
missing_line only true false = only
missing_line only is_empty is_faulty = None

abbrev pub IsUnmet : Outcome → Type 0
IsUnmet (Within n) = Unit {0}
IsUnmet Never = Unit {0}
IsUnmet outcome = ⊥

-- the output for the property with a head
abbrev pub printed_head : ProveArguments → (lines : List (List ℕ)) → Verdict → Head → List ℕ
printed_head arguments lines verdict head =
    answer_text arguments.is_json arguments.search.source.now head.line (text_at lines head.line)
    head.kind verdict.scope verdict.outcome

-- two outcomes print the same, for a property of any kind
pub record IsSameAnswer (a b : Outcome) : Type 0 where
  pub text : (is_json : Bool) (name : List ℕ) (line : ℕ) (text : List ℕ) (kind : Kind) (scope : Scope)
      → answer_text is_json name line text kind scope a
      ≡ answer_text is_json name line text kind scope b
  pub bad : (kind : Kind) → is_bad kind a ≡ is_bad kind b

-- a property with an outcome, and with the scope of a verdict
abbrev pub answered : Verdict → Stated → Outcome → Answered
answered verdict one outcome = record {
  stated = one;
  outcome = outcome;
  scope = verdict.scope;
  is_short = verdict.is_short;
}

-- the answer of a verdict on several properties to one of them
pub record IsAnswered (rate keys : ℕ) (start : State) (verdict : Verdict) (one : Stated) : Type 0 where
  pub outcome : Outcome
  pub right : IsRight rate keys start (answered verdict one outcome)
  pub same : IsSameAnswer outcome verdict.outcome

abbrev pub IsNext : (rate keys : ℕ) → State → (asked : List Stated) → (place : Option ℕ) → Verdict
    → Type 0
IsNext rate keys start asked place verdict =
    MatchOption place
    ((k : ℕ) (one : Stated) → slice_get asked k ≡ Some one →
    IsRight rate keys start (answered verdict one verdict.outcome))
    (λ place. (one : Stated) → slice_get asked place ≡ Some one →
    IsAnswered rate keys start verdict one)

abbrev pub searched_scope : (is_at_any_speed : Bool) → Scope
searched_scope is_at_any_speed = if is_at_any_speed then scope.AtAnySpeed else scope.AtRate

pub record AreFactsFrom (start : State) (facts : Facts) : Type 0 where
  pub image : List ℕ
  pub tape : List ℕ
  pub quirks : Quirks
  pub starts : start ≡ start_of image tape quirks
  pub bytes : IsByteTape tape
  pub hold : HoldFacts image quirks facts

-- Facts exclude the property at a place, which doesn't ask whether it can be met from everywhere.
pub record IsExcluded (facts : Facts) (left : Left) (place : ℕ) : Type 0 where
  pub within : place < length left.heads.items
  pub plain : IfSome (slice_get left.heads.items place) (λ head. is_can head.kind ≡ false)
  pub never : (property : Property) → slice_get left.properties.items place ≡ Some property
      → (image : List ℕ) (quirks : Quirks) → HoldFacts image quirks facts
      → NeverMet image quirks (looks_for property)

module _ {W : Type 0} (contents : W → Option (List ℕ)) (old new : Tally W) where
  abbrev pub WritesAll : {T : Type 0} → (text : List ℕ) → Result T Failure → Type 0
  WritesAll text (Ok value) = Writes contents old new text
  WritesAll text (Err failure.Output) = Breaks contents old new text
  WritesAll text (Err failure.OutOfMemory) = WritesFront contents old new text
  WritesAll text (Err _) = ⊥

  abbrev pub WritesUpTo : {T : Type 0} → (Why : Failure → Type 0) → (text : List ℕ)
      → Result T Failure → Type 0
  WritesUpTo Why text result =
      WritesAll text result ⊎ (IsErrAnd result Why × WritesFront contents old new text)

  pub record IsAnswering (arguments : ProveArguments) (lines : List (List ℕ)) (rate keys : ℕ)
      (start : State) (asked : List Stated) (was_bad was_short : Bool) (result : Result Told Failure)
      : Type 0 where
    pub given : List Answered
    pub left : List Stated
    pub answered : AreAnswered rate keys start asked given left
    pub written : WritesUpTo (IsScriptUnwritten arguments.search.keys_to)
        (flat_map (printed_answer arguments lines) given) result
    pub whole : IfOk result (λ told. left ≡ [])
    pub bad : IfOk result (λ told. told.is_bad ≡ (was_bad || has_bad given))
    pub short : IfOk result (λ told. told.is_short ≡ (was_short || has_short given))
