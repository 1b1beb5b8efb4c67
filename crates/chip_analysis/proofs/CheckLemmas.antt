-- What `check` did with sources, one after another.
use Rattle.std.proofs.Common.{◌≡◌, ◌⊎◌, inl, inr, ℕ, suc, ◌+◌, ◌<◌, ◌≤◌, Bool, true, false, List, [], ◌∷◌, drop, length, get_or, Option, Some, None, Result, Ok, Err, IfErr, IfOk, refl, sym, ◌∙◌, ap, ap₂, subst, add-one, drop-cons}
use Rattle.std.proofs.lemmas.List.{drop_all}
use Rattle.std.specs.Borrow.{Bor}
use Rattle.std.specs.Prelude.{All, IfSome, IsErr, IsSome, MatchOption, option_copied, option_map}
use Rattle.chip_asm.specs.Lines.{lines_of, open_fault}
use Rattle.chip_asm.specs.Program.{image_of}
use Rattle.chip_asm.specs.declared.refusal.OpenError.{OpenError}
use Rattle.chip_asm.specs.declared.refusal.OpenError.TheVariants as unopened
use Rattle.chip_session.specs.Settings.{SessionSettings}
use Rattle.chip_session.specs.Tally.{Tally}
use Rattle.chip_arguments.specs.declared.command_line.CheckArguments.{CheckArguments}
use Rattle.chip_analysis.specs.Exploring.{AsksSet, warning_named}
use Rattle.chip_analysis.specs.Commands.{Checks, ChecksEach, ChecksOne, IfSet, IsBadSet, checking_asked}
use Rattle.chip_host.specs.Reading.{GivesSource, IfSettled, IsSourceUnread}
use Rattle.chip_host.specs.SettingArguments.{settings_asked}
use Rattle.chip_host.specs.Endings.{Outcome}
use Rattle.chip_analysis.specs.Checking.{Checking, gives_tape, paints, with_ending, worse, AreWarned, IsCheckText, IsCoveredBy, IsPrintedCheckOf, IsWarned, unopened_check}
use Rattle.chip_analysis.specs.declared.covering.Covered.{Covered}
use Rattle.chip_analysis.specs.inner.Covering.{IsCovered, IsCoverageOf}
use Rattle.chip_facts.specs.Facts.{AreFacts}
use Rattle.chip_facts.specs.Rows.{HoldFacts}
use Rattle.chip_facts.specs.declared.facts.Facts.{Facts}
use Rattle.chip_facts.specs.declared.table.Left.{Left}
use Rattle.chip_machine.specs.declared.quirks.Quirks.{Quirks}
use Rattle.chip_warnings.specs.Warned.{kinds_told, warned}
use Rattle.chip_warnings.specs.Warnings.{StandsIn}
use Rattle.chip_warnings.specs.declared.asked.Asked.{Asked}
use Rattle.chip_warnings.specs.declared.coverage.Coverage.{Coverage}
use Rattle.chip_warnings.specs.declared.warning.Warning.{Warning}
use Rattle.chip_host.specs.Printing.{Printed, Prints, PrintsSuch, ending_with, printed, printed_by}
use Rattle.chip_host.specs.declared.printing.Answer.{Answer}
use Rattle.chip_host.specs.declared.ending.Ending.{Ending}
use Rattle.chip_host.specs.declared.ending.Ending.TheVariants.{Done, Faulty, Short}
use Rattle.chip_host.specs.declared.ending.Failure.{Failure}
use Rattle.chip_host.specs.declared.ending.Failure.TheVariants as failure
use Rattle.chip_host.proofs.ReadingLemmas.{Unsettles, declines, source_unread, unsettles}
use Rattle.chip_host.proofs.OpenedLemmas.{delivers_such, false_is_true}

done_first : (later : Outcome) → with_ending Done later ≡ later
done_first (Ok ending) = refl
done_first (Err why) = refl

done_last : (ending : Ending) → worse ending Done ≡ ending
done_last Done = refl
done_last Faulty = refl
done_last Short = refl

one_after_another : (first second : Ending) (later : Outcome) → with_ending first (with_ending second later) ≡ with_ending (worse first second) later
one_after_another Done second later = done_first (with_ending second later)
one_after_another Faulty second (Ok later) = refl
one_after_another Faulty second (Err why) = refl
one_after_another Short second (Ok later) = refl
one_after_another Short second (Err why) = refl

-- coverage in the form that the warnings take
covers : (is_covering : Bool) (settings : SessionSettings) (image : List ℕ) (covered : Option Covered) (coverage : Option Coverage) →
    IsCoverageOf covered coverage → IsCovered is_covering settings (Some image) covered → IsCoveredBy is_covering settings image coverage
covers true settings image (Some covered) (Some coverage) same is =
    rw (same.0, same.1) is
covers true settings image (Some covered) None same is = absurd same
covers true settings image None coverage same is = absurd is
covers false settings image None coverage same is = same
covers false settings image (Some covered) coverage same is = cc

-- facts say at which addresses steps may be made
reached : (image : List ℕ) (quirks : Quirks) (facts : Option Facts) (executed : Option (List Bool)) → IfSome facts (HoldFacts image quirks) →
    executed ≡ option_map (λ found. found.executed.items) facts → IfSome executed (λ executed. (left : List Left) × AreFacts image quirks left executed)
reached image quirks None executed hold is = subst (λ o. IfSome o (λ executed. (left : List Left) × AreFacts image quirks left executed)) (sym is) tt
reached image quirks (Some found) executed hold is =
    subst (λ o. IfSome o (λ executed. (left : List Left) × AreFacts image quirks left executed)) (sym is) (found.left.items, hold.are)

module _ (checking : Checking) (lines : List (List ℕ)) (asked : Asked) (covered : Option Covered) (facts : Option Facts)
    (allowed : asked.allowed ≡ checking.allowed) (quirks : asked.quirks ≡ checking.settings.quirks) (tape : asked.has_tape ≡ checking.has_tape)
    (same : IsCoverageOf covered asked.coverage) (executed : option_copied asked.reachable ≡ option_map (λ found. found.executed.items) facts) where
  by_image : (warnings : List Warning) → All (StandsIn checking.allowed lines) warnings → (IsSome (image_of lines) → kinds_told warnings ≡ warned asked lines) →
      (image : Option (List ℕ)) → image_of lines ≡ image → (image ≡ None → warnings ≡ []) → IsCovered checking.is_covering checking.settings image covered →
      IfSome facts (λ facts. MatchOption image ⊥ (λ image. HoldFacts image checking.settings.quirks facts)) →
      MatchOption image (warnings ≡ []) (λ image. IsWarned checking lines image warnings)
  by_image warnings places told None is none cover hold = none refl
  by_image warnings places told (Some image) is none cover hold = record {
    asked = asked;
    allowed = allowed;
    quirks = quirks;
    tape = tape;
    covered = covers checking.is_covering checking.settings image covered asked.coverage same cover;
    reachable = reached image checking.settings.quirks facts (option_copied asked.reachable) hold executed;
    told = told (subst IsSome (sym is) refl);
    places = places;
  }

  -- the warnings that a call returns are those of the source for what is asked
  pub are_warned : {V E : Type 0} (items : V → List Warning) (result : Result V E) → IfOk result (λ v. All (StandsIn asked.allowed lines) (items v)) →
      IfOk result (λ v. image_of lines ≡ None → items v ≡ []) → IfOk result (λ v. IsSome (image_of lines) → kinds_told (items v) ≡ warned asked lines) →
      IsCovered checking.is_covering checking.settings (image_of lines) covered →
      IfSome facts (λ facts. MatchOption (image_of lines) ⊥ (λ image. HoldFacts image checking.settings.quirks facts)) →
      IfOk result (λ v. AreWarned checking lines (items v))
  are_warned items (Ok v) places faulty told cover hold =
      by_image (items v) (subst (λ a. All (StandsIn a lines) (items v)) allowed places) told (image_of lines) refl faulty cover hold
  are_warned items (Err e) places faulty told cover hold = tt

-- what the arguments ask of `check`, by what the code finds in them
module _ (takes_color : Bool) (arguments : CheckArguments) (settings : SessionSettings) (allowed : ℕ) where
  abbrev pub asked_with : (painted has_tape : Bool) → Checking
  asked_with painted has_tape = record {
    is_json = arguments.is_json;
    is_painted = painted;
    is_covering = arguments.is_covering;
    has_tape = has_tape;
    allowed = allowed;
    settings = settings;
  }

  pub same_asked : (painted has_tape : Bool) → painted ≡ paints arguments.color takes_color → has_tape ≡ gives_tape arguments.settings →
      asked_with painted has_tape ≡ checking_asked takes_color arguments settings allowed
  same_asked painted has_tape p h = ap₂ asked_with p h

module _ (checking : Checking) (name bytes : List ℕ) where
  -- what is found in a source that opens
  pub found_opened : (lines : List (List ℕ)) (wanted : Printed) → open_fault bytes ≡ None → lines ≡ lines_of bytes →
      (warnings : List Warning) × AreWarned checking lines warnings × IsCheckText checking.is_json checking.is_painted name lines warnings wanted.text
      × (wanted.ending ≡ ending_with (image_of lines)) → IsPrintedCheckOf checking name (open_fault bytes) (lines_of bytes) wanted
  found_opened lines wanted opens are is = rw (opens, sym are) is

  -- the reason why a source doesn't open
  pub found_unopened : {E : Type 0} (error : OpenError) (answer : Result Answer E) → (error ≡ unopened.OutOfMemory) ⊎ (open_fault bytes ≡ Some error) →
      IfOk answer (λ given. printed_by given ≡ printed (unopened_check checking.is_json checking.is_painted name error) Faulty) → (error ≡ unopened.OutOfMemory → IsErr answer) →
      IfOk answer (λ given. IsPrintedCheckOf checking name (open_fault bytes) (lines_of bytes) (printed_by given))
  found_unopened error (Ok given) (inl memory) told short = absurd (false_is_true (short memory))
  found_unopened error (Ok given) (inr fault) told short = rw fault told
  found_unopened error (Err e) why told short = tt

module _ {R W : Type 0} (remaining : R → Option (List ℕ)) (contents : W → Option (List ℕ)) (checking : Checking) where
  abbrev Each : List (Bor (List ℕ)) → Tally R → Tally R → Tally W → Tally W → Outcome → Type 0
  Each = ChecksEach remaining contents checking

  abbrev One : Bor (List ℕ) → Tally R → Tally R → Tally W → Tally W → Outcome → Type 0
  One = ChecksOne remaining contents checking

  module _ (in_old in_new : Tally R) (out_old out_new : Tally W) (name : Bor (List ℕ)) (bytes text : List ℕ) (ended : Outcome) (same : text ≡ bytes)
      (gives : GivesSource remaining in_old in_new name.now bytes) where
    of_text : PrintsSuch contents out_old out_new (IsPrintedCheckOf checking name.now (open_fault text) (lines_of text)) ended →
        One name in_old in_new out_old out_new ended
    of_text such = inl (
      bytes,
      gives,
      subst (λ (t : List ℕ). PrintsSuch contents out_old out_new (IsPrintedCheckOf checking name.now (open_fault t) (lines_of t)) ended) same such,
    )

    -- what is found in a source is printed; the result of reading gives the source's name
    pub one_found : {T E : Type 0} (read : Result T Failure) (shown : List ℕ) (answer : Result Answer E) → IfErr read (IsSourceUnread in_old in_new name) → shown ≡ name.now →
        IfOk answer (λ given. IsPrintedCheckOf checking shown (open_fault text) (lines_of text) (printed_by given)) →
        ((wanted : Printed) → IfOk answer (λ given. printed_by given ≡ wanted) → Prints contents out_old out_new wanted ended) →
        IfErr answer (λ e. (ended ≡ Err failure.OutOfMemory) × (out_new ≡ out_old)) → One name in_old in_new out_old out_new ended
    one_found {T} {E} read shown answer unread called found prints short =
        of_text
        (delivers_such contents out_old out_new answer (IsPrintedCheckOf checking name.now (open_fault text) (lines_of text)) ended
        (subst (λ (n : List ℕ). IfOk answer (λ given. IsPrintedCheckOf checking n (open_fault text) (lines_of text) (printed_by given))) called found)
        prints short)

  -- a source that can't be read
  pub one_unread : (in_old in_new : Tally R) (output : Tally W) (name : Bor (List ℕ)) (ended : Outcome) (why : Failure) → ended ≡ Err why →
      IsSourceUnread in_old in_new name why → One name in_old in_new output output ended
  one_unread in_old in_new output name ended why e w =
      source_unread remaining in_old in_new (output ≡ output) refl name
      (λ bytes. PrintsSuch contents output output (IsPrintedCheckOf checking name.now (open_fault bytes) (lines_of bytes))) ended why e w

  module _ (names : List (Bor (List ℕ))) (in_old : Tally R) (out_old : Tally W) where
    -- what was done with all of them, by what is done with those that are left
    abbrev pub ChecksSoFar : ℕ → Tally R → Tally W → Ending → Type 0
    ChecksSoFar place in_mid out_mid ending =
        (in_new : Tally R) (out_new : Tally W) (later : Outcome) → Each (drop place names) in_mid in_new out_mid out_new later →
        Each names in_old in_new out_old out_new (with_ending ending later)

    pub checks_none : ChecksSoFar 0 in_old out_old Done
    checks_none in_new out_new later left = subst (Each names in_old in_new out_old out_new) (sym (done_first later)) left

    next_left : (place : ℕ) (name nothing : Bor (List ℕ)) → place < length names → name ≡ get_or names place nothing →
        drop place names ≡ name ∷ drop (place + 1) names
    next_left place name nothing within is =
        drop-cons names place nothing within ∙ ap (λ n. n ∷ drop (suc place) names) (sym is) ∙ ap (λ n. name ∷ drop n names) (sym (add-one place))

    module _ (place : ℕ) (name nothing : Bor (List ℕ)) (in_mid in_next : Tally R) (out_mid out_next : Tally W) (ending : Ending)
        (within : place < length names) (is : name ≡ get_or names place nothing) (so_far : ChecksSoFar place in_mid out_mid ending) where
      pub checks_more : (one : Ending) → One name in_mid in_next out_mid out_next (Ok one) → ChecksSoFar (place + 1) in_next out_next (worse ending one)
      checks_more one did in_new out_new later left =
          subst (Each names in_old in_new out_old out_new) (one_after_another ending one later)
          (so_far in_new out_new (with_ending one later)
          (subst (λ these. Each these in_mid in_new out_mid out_new (with_ending one later)) (sym (next_left place name nothing within is))
          (in_next, out_next, Ok one, did, (later, left, refl))))

      -- one of the sources ends the check
      pub checks_stop : (why : Failure) → One name in_mid in_next out_mid out_next (Err why) → Each names in_old in_next out_old out_next (Err why)
      checks_stop why did =
          so_far in_next out_next (Err why)
          (subst (λ these. Each these in_mid in_next out_mid out_next (Err why)) (sym (next_left place name nothing within is))
          (in_next, out_next, Err why, did, ((refl, refl), refl)))

    pub checks_all : (place : ℕ) (in_new : Tally R) (out_new : Tally W) (ending : Ending) → length names ≤ place → ChecksSoFar place in_new out_new ending →
        Each names in_old in_new out_old out_new (Ok ending)
    checks_all place in_new out_new ending past so_far =
        subst (Each names in_old in_new out_old out_new) (ap (λ e. Ok e) (done_last ending))
        (so_far in_new out_new (Ok Done) (subst (λ these. Each these in_new in_new out_new out_new (Ok Done)) (sym (drop_all place names past)) (refl, refl, refl)))

module _ {R W : Type 0} (remaining : R → Option (List ℕ)) (contents : W → Option (List ℕ)) (in_old in_new : Tally R) (out_old out_new : Tally W)
    (takes_color : Bool) (arguments : CheckArguments) (ended : Outcome) where
  abbrev WithAllowed : SessionSettings → Outcome → Type 0
  WithAllowed settings ended =
      (allowed : Option ℕ) × AsksSet warning_named 0 (option_copied arguments.allowed) allowed
      × IfSet remaining in_old in_new (out_new ≡ out_old) allowed (λ set.
      ChecksEach remaining contents (checking_asked takes_color arguments settings set)
      arguments.sources.items in_old in_new out_old out_new) ended

  -- there are no settings
  pub checks_unsettled : (why : Failure) → ended ≡ Err why → in_new ≡ in_old → out_new ≡ out_old → Unsettles (settings_asked arguments.settings) why →
      Checks remaining contents in_old in_new out_old out_new takes_color arguments ended
  checks_unsettled why e same quiet u =
      unsettles remaining in_old in_new (out_new ≡ out_old) quiet (settings_asked arguments.settings) WithAllowed ended why e same u

  module _ (settings : SessionSettings) (settled : settings_asked arguments.settings ≡ Some settings) where
    with_allowed : WithAllowed settings ended → Checks remaining contents in_old in_new out_old out_new takes_color arguments ended
    with_allowed did =
        subst (λ (o : Option SessionSettings). IfSettled remaining in_old in_new (out_new ≡ out_old) o WithAllowed ended) (sym settled) (inl did)

    -- the argument for warnings can't be read
    pub checks_bad : (why : Failure) → ended ≡ Err why → in_new ≡ in_old → out_new ≡ out_old → IsBadSet why →
        AsksSet warning_named 0 (option_copied arguments.allowed) None → Checks remaining contents in_old in_new out_old out_new takes_color arguments ended
    checks_bad why e same quiet bad asks = with_allowed (None, asks, declines remaining in_old in_new (out_new ≡ out_old) quiet IsBadSet ended why e bad same)

    -- each source was checked
    pub checks : (set : ℕ) (checking : Checking) (names : List (Bor (List ℕ))) → AsksSet warning_named 0 (option_copied arguments.allowed) (Some set) →
        checking ≡ checking_asked takes_color arguments settings set → names ≡ arguments.sources.items →
        ChecksEach remaining contents checking names in_old in_new out_old out_new ended →
        Checks remaining contents in_old in_new out_old out_new takes_color arguments ended
    checks set checking names asks c n did = with_allowed (Some set, asks, rw (sym c, sym n) did)
