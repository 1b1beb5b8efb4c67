-- What the next search of `prove` answers, of one property or of all that are left.
use Rattle.std.proofs.Common.{◌≡◌, ℕ, ◌<◌, ◌≤◌, ◌&&◌, Bool, true, false, List, Option, Some, None, IfSome, length, map, option_map, slice_get, get_or, refl, sym, ◌∙◌, ap, subst, arith}
use Rattle.std.specs.Prelude.{MatchOption, nat_lt, position, if◌then◌else◌}
use Rattle.std.specs.Global.{Vec}
use Rattle.std.specs.List.{position_or_len}
use Rattle.std.proofs.lemmas.Bool.{eq-eqb, ltb-true}
use Rattle.std.proofs.lemmas.Grind.{common_steps}
use Rattle.std.proofs.lemmas.List.Quantifiers.{position-Some}
use Rattle.std.proofs.lemmas.List.Sums.{fails_before_first}
use Rattle.std.proofs.lemmas.Option.{get_or_from_slice_get, slice_get-map, slice_get_within}
use Rattle.chip_explore.specs.Answers.{Answers}
use Rattle.chip_explore.specs.OneOf.{told_of}
use Rattle.chip_explore.specs.Speeds.{NeverAtAnySpeed}
use Rattle.chip_explore.specs.declared.property.Property.{Property}
use Rattle.chip_explore.specs.declared.question.Explored.{Explored}
use Rattle.chip_explore.specs.declared.question.Outcome.{Outcome}
use Rattle.chip_explore.specs.declared.question.Outcome.TheVariants.{Found, Later, Within, Never}
use Rattle.chip_explore.specs.declared.script.KeyEvent.{KeyEvent}
use Rattle.chip_explore.specs.declared.target.Met.{Met}
use Rattle.chip_explore.specs.declared.target.Met.TheVariants as met
use Rattle.chip_machine.specs.State.{State}
use Rattle.chip_properties.specs.declared.stated.Kind.{Kind}
use Rattle.chip_properties.specs.declared.stated.Kind.TheVariants as kind
use Rattle.chip_properties.specs.declared.stated.Stated.{Stated}
use Rattle.chip_analysis.specs.Proving.{AnswersKind, IsForeseen, IsRight, looks_for}
use Rattle.chip_check.specs.Answer.{answer_object, answer_text, is_bad}
use Rattle.chip_analysis.specs.declared.proving.Head.{Head}
use Rattle.chip_analysis.specs.declared.proving.Left.{Left}
use Rattle.chip_analysis.specs.declared.proving.Verdict.{Verdict}
use Rattle.chip_analysis.specs.inner.Proofs.{AreFactsFrom, IsAnswered, IsExcluded, IsLeft, IsNext, IsSameAnswer, IsUnmet, answered, head_of, is_can, met_property, searched_scope}
use Rattle.chip_check.specs.declared.answer.Scope.{Scope}
use Rattle.chip_check.specs.declared.answer.Scope.TheVariants as scope
use Rattle.chip_explore.specs.Scripts.{Avoids}
use Rattle.chip_facts.specs.declared.facts.Facts.{Facts}
use Rattle.chip_verdicts.specs.Verdict.{AvoidsAll}

-- ---- what is printed of an outcome

-- the answer to a property that was met doesn't depend on its place among the others
pub same_answer : (outcome : Outcome) → IsSameAnswer outcome outcome
same_answer outcome = record { text = λ is_json name line text kind scope. refl; bad = λ kind. refl }

same_found : (events : Vec KeyEvent) (step : ℕ) (a b : Met) → IsSameAnswer (Found events step a) (Found events step b)
unfolding answer_object
same_found events step a b = record { text = text; bad = bad }
  where
    text : (is_json : Bool) (name : List ℕ) (line : ℕ) (stated : List ℕ) (kind : Kind) (covers : Scope)
        → answer_text is_json name line stated kind covers (Found events step a) ≡ answer_text is_json name line stated kind covers (Found events step b)
    text is_json name line stated kind scope.AtRate = refl
    text is_json name line stated kind scope.AtAnySpeed = refl
    text is_json name line stated kind scope.Anything = refl

    bad : (kind : Kind) → is_bad kind (Found events step a) ≡ is_bad kind (Found events step b)
    bad kind.Ever = refl
    bad kind.Always = refl
    bad kind.Never = refl
    bad kind.Can = refl

same_later : (events : Vec KeyEvent) (step covered : ℕ) (a b : Met) → IsSameAnswer (Later events step a covered) (Later events step b covered)
unfolding answer_object
same_later events step covered a b = record { text = text; bad = bad }
  where
    text : (is_json : Bool) (name : List ℕ) (line : ℕ) (stated : List ℕ) (kind : Kind) (covers : Scope)
        → answer_text is_json name line stated kind covers (Later events step a covered) ≡ answer_text is_json name line stated kind covers (Later events step b covered)
    text is_json name line stated kind scope.AtRate = refl
    text is_json name line stated kind scope.AtAnySpeed = refl
    text is_json name line stated kind scope.Anything = refl

    bad : (kind : Kind) → is_bad kind (Later events step a covered) ≡ is_bad kind (Later events step b covered)
    bad kind.Ever = refl
    bad kind.Always = refl
    bad kind.Never = refl
    bad kind.Can = refl

pub is_place : (k place count : ℕ) → Some k ≡ (if nat_lt place count then Some place else None) → place ≡ k
is_place k place count e = by (nat_lt place count) e
  where
    by : (b : Bool) → Some k ≡ (if b then Some place else None) → place ≡ k
    by true e = cc
    by false e = cc

-- the answer of a search that met a property to that property
pub met_told : (k count : ℕ) (outcome : Outcome) → Some k ≡ met_property outcome count
    → (told : Outcome) × (told_of k outcome ≡ Some told) × IsSameAnswer told outcome
met_told k count (Found events step (met.Property place)) e =
    (Found events step (met.Property 0), rw (eq-eqb place k (is_place k place count e)) refl, same_found events step _ _)
met_told k count (Found events step (met.Cause cause)) e = cc
met_told k count (Found events step met.Address) e = cc
met_told k count (Later events step (met.Property place) covered) e =
    (Later events step (met.Property 0) covered, rw (eq-eqb place k (is_place k place count e)) refl, same_later events step covered _ _)
met_told k count (Later events step (met.Cause cause) covered) e = cc
met_told k count (Later events step met.Address covered) e = cc
met_told k count (Within n) e = cc
met_told k count Never e = cc

-- the answer of a search that met nothing to each property
pub unmet_told : (outcome : Outcome) → IsUnmet outcome → (k : ℕ) → told_of k outcome ≡ Some outcome
unmet_told (Within n) unmet k = refl
unmet_told Never unmet k = refl
unmet_told (Found events step met) unmet k = absurd unmet
unmet_told (Later events step met covered) unmet k = absurd unmet

both_true : (a b : Bool) → (a && b) ≡ true → b ≡ true
both_true true b e = e
both_true false b e = cc

by_place : (k place count : ℕ) → Some k ≡ (if nat_lt place count then Some place else None) → k < count
by_place k place count e = by (nat_lt place count) refl
  where
    by : (b : Bool) → nat_lt place count ≡ b → k < count
    by true is = subst (λ (n : ℕ). n < count) (is_place k place count e) (ltb-true place count is)
    by false is = absurd (let none : Some k ≡ None = rw is at e in cc)

-- the property that was met is one of the properties
pub place_within : (k count : ℕ) (outcome : Outcome) → Some k ≡ met_property outcome count → k < count
place_within k count (Found events step (met.Property place)) e = by_place k place count e
place_within k count (Found events step (met.Cause cause)) e = cc
place_within k count (Found events step met.Address) e = cc
place_within k count (Later events step (met.Property place) covered) e = by_place k place count e
place_within k count (Later events step (met.Cause cause) covered) e = cc
place_within k count (Later events step met.Address covered) e = cc
place_within k count (Within n) e = cc
place_within k count Never e = cc

pub is_within : (place : Option ℕ) (k count : ℕ) → Some k ≡ place → IfSome place (λ n. n < count) → k < count
is_within place k count is within = rw (sym is) at within

-- ---- which properties ask whether they can be met from everywhere

module _ (asked : List Stated) (left : Left) (is : IsLeft asked left) where
  abbrev asks : Head → Bool
  asks head = is_can head.kind

  head_there : (k : ℕ) (one : Stated) → slice_get asked k ≡ Some one → slice_get left.heads.items k ≡ Some (head_of one)
  head_there k one there = ap (λ (hs : List Head). slice_get hs k) is.heads ∙ slice_get-map head_of asked k ∙ ap (option_map head_of) there

  head_at : (k : ℕ) (one : Stated) → slice_get asked k ≡ Some one → get_or left.heads.items k (head_of one) ≡ head_of one
  head_at k one there = get_or_from_slice_get left.heads.items k (head_of one) (head_of one) (head_there k one there)

  pub is_the_can : (k : ℕ) (one : Stated) → position asks left.heads.items ≡ Some k → slice_get asked k ≡ Some one → is_can one.kind ≡ true
  is_the_can k one first there = ap asks (sym (head_at k one there)) ∙ (position-Some asks left.heads.items k (head_of one) first).1

  pub is_no_can : (k : ℕ) (one : Stated) → position asks left.heads.items ≡ None → slice_get asked k ≡ Some one → is_can one.kind ≡ false
  is_no_can k one none there =
      let all : length left.heads.items ≤ position_or_len asks left.heads.items = grind (arith, common_steps) in
      let within : k < length left.heads.items = slice_get_within left.heads.items k (head_of one) (head_there k one there) in
      ap asks (sym (head_at k one there)) ∙ fails_before_first asks left.heads.items k (head_of one) (omega arith)

  pub property_there : (k : ℕ) (one : Stated) → slice_get asked k ≡ Some one → slice_get left.properties.items k ≡ Some one.property
  property_there k one there =
      ap (λ (ps : List Property). slice_get ps k) is.properties ∙ slice_get-map (λ (s : Stated). s.property) asked k ∙ ap (option_map (λ (s : Stated). s.property)) there

-- the element at a place is the property there
pub property_is : (properties : List Property) (k : ℕ) (property read : Property) → slice_get properties k ≡ Some property →
    read ≡ get_or properties k read → read ≡ property
property_is properties k property read there is = is ∙ get_or_from_slice_get properties k property read there

-- ---- what the next search answers

not_searched : (b : Bool) → searched_scope b ≡ scope.Anything → ⊥
not_searched true is = cc
not_searched false is = cc

at_any_speed : (b : Bool) → searched_scope b ≡ scope.AtAnySpeed → b ≡ true
at_any_speed true is = refl
at_any_speed false is = cc

module _ (rate keys : ℕ) (start : State) where
  abbrev pub Rights : List Property → Explored → Type 0
  Rights properties explored = record {
    answers : (k : ℕ) (property : Property) → slice_get properties k ≡ Some property →
        IfSome (told_of k explored.outcome) (Answers rate keys (looks_for property) start);
    any_speed : (k : ℕ) (property : Property) → slice_get properties k ≡ Some property → explored.is_at_any_speed ≡ true →
        NeverAtAnySpeed keys (looks_for property) start;
  }

  if_some : {A : Type 0} (o : Option A) (x : A) (P : A → Type 0) → o ≡ Some x → IfSome o P → P x
  if_some o x P is h = rw is at h

  answers_kind : (kind : Kind) → is_can kind ≡ false → (property : Property) (outcome : Outcome) →
      Answers rate keys (looks_for property) start outcome → AnswersKind kind rate keys property start outcome
  answers_kind kind.Always plain property outcome a = a
  answers_kind kind.Never plain property outcome a = a
  answers_kind kind.Ever plain property outcome a = a
  answers_kind kind.Can plain property outcome a = cc

  -- the answer to a property that doesn't ask whether it can be met from everywhere is right
  pub is_right : (asked : List Stated) (properties : List Property) (explored : Explored) (is_any_speed : Bool) (verdict : Verdict) →
      verdict.scope ≡ searched_scope (is_any_speed && explored.is_at_any_speed) → (k : ℕ) (one : Stated) (told : Outcome) →
      properties ≡ map (λ (s : Stated). s.property) asked → Rights properties explored → slice_get asked k ≡ Some one → is_can one.kind ≡ false →
      told_of k explored.outcome ≡ Some told → IsRight rate keys start (answered verdict one told)
  is_right asked properties explored is_any_speed verdict covers k one told same rights here plain says =
      let there : slice_get properties k ≡ Some one.property =
      ap (λ (ps : List Property). slice_get ps k) same ∙ slice_get-map (λ (s : Stated). s.property) asked k ∙ ap (option_map (λ (s : Stated). s.property)) here in
      record {
        answers = answers_kind one.kind plain one.property told
            (if_some (told_of k explored.outcome) told (Answers rate keys (looks_for one.property) start) says (rights.answers k one.property there));
        any_speed = λ any. rights.any_speed k one.property there
            (both_true is_any_speed explored.is_at_any_speed (at_any_speed (is_any_speed && explored.is_at_any_speed) (sym covers ∙ any)));
        anything = λ all. absurd (not_searched (is_any_speed && explored.is_at_any_speed) (sym covers ∙ all));
      }

  foreseen_kind : (kind : Kind) → is_can kind ≡ true → (property : Property) (outcome : Outcome) →
      IsForeseen rate keys property start outcome → AnswersKind kind rate keys property start outcome
  foreseen_kind kind.Can can property outcome f = f
  foreseen_kind kind.Always can property outcome f = cc
  foreseen_kind kind.Never can property outcome f = cc
  foreseen_kind kind.Ever can property outcome f = cc

  -- the answer to a property that asks whether it can be met from everywhere is right
  pub is_foreseen : (verdict : Verdict) (one : Stated) → is_can one.kind ≡ true → verdict.scope ≡ scope.AtRate →
      IsForeseen rate keys one.property start verdict.outcome → IsAnswered rate keys start verdict one
  is_foreseen verdict one can slow foreseen = record {
    outcome = verdict.outcome;
    right = record {
      answers = foreseen_kind one.kind can one.property verdict.outcome foreseen;
      any_speed = λ any. absurd (let no : scope.AtRate ≡ scope.AtAnySpeed = sym slow ∙ any in cc);
      anything = λ all. absurd (let no : scope.AtRate ≡ scope.Anything = sym slow ∙ all in cc);
    };
    same = same_answer verdict.outcome;
  }

  -- the answer to a property that facts exclude is right
  pub is_excluded : AvoidsAll → (facts : Facts) (left : Left) (place : ℕ) (verdict : Verdict) (asked : List Stated) → AreFactsFrom start facts
      → IsExcluded facts left place → IsLeft asked left → verdict.outcome ≡ Never → verdict.scope ≡ scope.Anything → (one : Stated)
      → slice_get asked place ≡ Some one → IsAnswered rate keys start verdict one
  is_excluded avoids facts left place verdict asked from excluded is never all one there =
      let property = property_there asked left is place one there in
      let unmet = excluded.never one.property property from.image from.quirks from.hold in
      let plain : is_can one.kind ≡ false = if_some (slice_get left.heads.items place) (head_of one) (λ head. is_can head.kind ≡ false)
      (head_there asked left is place one there) excluded.plain in
      let answers : Answers rate keys (looks_for one.property) start Never =
      λ n below. subst (λ (s : State). Avoids rate keys (looks_for one.property) s n) (sym from.starts)
      (avoids from.image from.tape from.quirks (looks_for one.property) rate keys n from.bytes unmet) in
      record {
        outcome = verdict.outcome;
        right = record {
          answers = answers_kind one.kind plain one.property verdict.outcome
              (subst (Answers rate keys (looks_for one.property) start) (sym never) answers);
          any_speed = λ any. absurd (let no : scope.Anything ≡ scope.AtAnySpeed = sym all ∙ any in cc);
          anything = λ covers. record { image = from.image; tape = from.tape; quirks = from.quirks; starts = from.starts; never = unmet };
        };
        same = same_answer verdict.outcome;
      }

  match_some : {A : Type 0} (o : Option A) (x : A) (Other : Type 0) (P : A → Type 0) → Some x ≡ o → MatchOption o Other P → P x
  match_some o x Other P is h = rw (sym is) at h

  match_none : {A : Type 0} (o : Option A) (Other : Type 0) (P : A → Type 0) → ◌≡◌ {A = Option A} None o → MatchOption o Other P → Other
  match_none o Other P is h = rw (sym is) at h

  -- what the next search answers, of the property at a place or of all
  module _ (asked : List Stated) (next : Option ℕ) (verdict : Verdict) where
    abbrev pub Each : Type 0
    Each = (k : ℕ) (one : Stated) → slice_get asked k ≡ Some one → IsRight rate keys start (answered verdict one verdict.outcome)

    abbrev pub At : ℕ → Type 0
    At place = (one : Stated) → slice_get asked place ≡ Some one → IsAnswered rate keys start verdict one

    pub at_place : IsNext rate keys start asked next verdict → (place : ℕ) → Some place ≡ next → At place
    at_place right place is = match_some next place Each At is right

    pub at_each : IsNext rate keys start asked next verdict → ◌≡◌ {A = Option ℕ} None next → Each
    at_each right is = match_none next Each At is right

  -- the search for all
  module _ (asked : List Stated) (left : Left) (next : Option ℕ) (verdict : Verdict) (explored : Explored) (is_any_speed : Bool) (is : IsLeft asked left)
      (same : verdict.outcome ≡ explored.outcome) (covers : verdict.scope ≡ searched_scope (is_any_speed && explored.is_at_any_speed))
      (rights : Rights left.properties.items explored)
      (none : position (λ (head : Head). is_can head.kind) left.heads.items ≡ None)
      (unmet : met_property explored.outcome (length left.heads.items) ≡ None → IsUnmet explored.outcome)
      (met : next ≡ met_property explored.outcome (length left.heads.items)) where
    at_met : (k : ℕ) → met_property explored.outcome (length left.heads.items) ≡ Some k → At asked next verdict k
    at_met k here one there =
        let told = met_told k (length left.heads.items) explored.outcome (sym here) in
        record {
          outcome = told.0;
          right = is_right asked left.properties.items explored is_any_speed verdict covers k one told.0 is.properties rights there
              (is_no_can asked left is k one none there) told.1;
          same = subst (IsSameAnswer told.0) (sym same) told.2;
        }

    at_unmet : met_property explored.outcome (length left.heads.items) ≡ None → Each asked next verdict
    at_unmet here k one there =
        subst (λ (outcome : Outcome). IsRight rate keys start (answered verdict one outcome)) (sym same)
        (is_right asked left.properties.items explored is_any_speed verdict covers k one explored.outcome is.properties rights there
        (is_no_can asked left is k one none there) (unmet_told explored.outcome (unmet here) k))

    by : (o : Option ℕ) → met_property explored.outcome (length left.heads.items) ≡ o → MatchOption o (Each asked next verdict) (At asked next verdict)
    by (Some k) here = at_met k here
    by None here = at_unmet here

    pub others_next : IsNext rate keys start asked next verdict
    others_next = by next (sym met)
