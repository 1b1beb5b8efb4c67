-- What `explore` did, from what its steps did.
use Rattle.std.proofs.Common.{◌≡◌, ◌⊎◌, inl, inr, ℕ, Bool, true, false, List, ◌++◌, Option, Some, None, Err, refl, sym, subst}
use Rattle.std.specs.Prelude.{MatchOption, option_copied}
use Rattle.std.specs.Borrow.{Bor}
use Rattle.chip_arguments.specs.declared.command_line.ExploreArguments.{ExploreArguments}
use Rattle.chip_asm.specs.Lines.{lines_of, open_fault}
use Rattle.chip_asm.specs.Program.{image_of, symbols_of}
use Rattle.chip_explore.specs.Answers.{Answers, AreExecuted}
use Rattle.chip_explore.specs.Speeds.{NeverAtAnySpeed}
use Rattle.chip_explore.specs.declared.property.Property.{Property}
use Rattle.chip_explore.specs.declared.question.Explored.{Explored}
use Rattle.chip_explore.specs.declared.question.Outcome.{Outcome as SearchOutcome}
use Rattle.chip_explore.specs.declared.question.Outcome.TheVariants.{Found, Later, Within, Never}
use Rattle.chip_explore.specs.declared.target.Target.{Target}
use Rattle.chip_facts.specs.declared.table.Left.{Left}
use Rattle.chip_machine.specs.State.{State}
use Rattle.chip_session.specs.Settings.{SessionSettings}
use Rattle.chip_session.specs.Tally.{Tally}
use Rattle.chip_host.specs.Reading.{Declined, FromGiven, IfSettled, IsGiven, IsNotGiven}
use Rattle.chip_analysis.specs.Commands.{ExcludesOrSearches, Explores, IfSet, IsBadProperty, IsBadSet, Searches, SearchesFrom}
use Rattle.chip_host.specs.Printing.{Fails, IfOpens, Prints, printed, printed_faults}
use Rattle.chip_host.specs.Endings.{Outcome}
use Rattle.chip_analysis.specs.Exploring.{AreStopsLeft, AsksCauses, AsksKeys, AsksProperty, answer_lines, covering_text, search_ending, target_asked}
use Rattle.chip_host.specs.SettingArguments.{settings_asked}
use Rattle.chip_host.specs.declared.ending.Ending.{Ending}
use Rattle.chip_host.specs.declared.ending.Ending.TheVariants.{Faulty}
use Rattle.chip_host.specs.declared.ending.Failure.{Failure}
use Rattle.chip_host.specs.declared.ending.Failure.TheVariants as failure
use Rattle.chip_analysis.specs.inner.Sets.{IsBadSets}
use Rattle.chip_analysis.specs.inner.Written.{IsNamedWritten, IsScriptWritten}
use Rattle.chip_host.proofs.ReadingLemmas.{declines, fails, given_else, given_then, settles}

some_is_none : {k : ℕ} → Some k ≡ None → ⊥
some_is_none h = cc

-- the program ends as faulty after a search where a script was found, whose key events were written
pub found_written : (wrote : List ℕ → List ℕ → Type 0) (outcome : SearchOutcome) (is_short : Bool) (name : Option (Bor (List ℕ))) →
    Faulty ≡ search_ending outcome is_short → IsScriptWritten wrote outcome name → IsNamedWritten wrote name
found_written wrote (Found events step met) is_short name faulty written = written
found_written wrote (Later events step met covered) is_short name faulty written = written
found_written wrote (Within n) true name faulty written = cc
found_written wrote (Within n) false name faulty written = cc
found_written wrote Never true name faulty written = cc
found_written wrote Never false name faulty written = cc

module _ {W : Type 0} (contents : W → Option (List ℕ)) (out_old out_new : Tally W) where
  -- what is printed of a search
  pub search_printed : (arguments : ExploreArguments) (lines : List (List ℕ)) (rate keys : ℕ) (target : Target) (left : Option (List Left)) (start : State)
      (explored : Explored) (text place others stops : List ℕ) (ending : Ending) (ended : Outcome) → Answers rate keys target start explored.outcome →
      AreExecuted rate keys explored.executed start explored.outcome →
      (explored.is_at_any_speed ≡ true → NeverAtAnySpeed keys target start) →
      text ≡ answer_lines arguments.search.is_any_speed place explored ++ others ++ stops ++ covering_text arguments.is_covering explored.executed lines →
      AreStopsLeft target.causes left stops → ending ≡ search_ending explored.outcome explored.is_short → Prints contents out_old out_new (printed text ending) ended →
      SearchesFrom contents out_old out_new arguments lines rate keys target left start ended
  search_printed arguments lines rate keys target left start explored text place others stops ending ended answers executed speed is listed end prints =
      inl (explored, answers, executed, speed, inl (printed text ending, record { place = place; others = others; stops = stops; text = is; listed = listed; ending = end }, prints))

  -- memory ran out for a search
  pub searches_short : (arguments : ExploreArguments) (settings : SessionSettings) (causes keys : ℕ) (lines : List (List ℕ)) (ended : Outcome) →
      ended ≡ Err failure.OutOfMemory → out_new ≡ out_old → Searches contents out_old out_new arguments settings causes keys lines ended
  searches_short arguments settings causes keys lines ended e same = by_image (image_of lines)
    where
      by_image : (image : Option (List ℕ)) →
          MatchOption image (Prints contents out_old out_new (printed_faults lines) ended)
          (λ image. ((properties : Bor (List Property)) × AsksProperty arguments lines properties.now
          × MatchOption (target_asked causes (option_copied arguments.place) properties (symbols_of lines)) (Fails contents out_old out_new (λ why. (text : Bor (List ℕ)) × (why ≡ failure.BadPlace text)) ended)
          (λ target. ExcludesOrSearches contents out_old out_new arguments settings keys lines image target ended))
          ⊎ Fails contents out_old out_new IsBadProperty ended)
      by_image None = rw e same
      by_image (Some image) = inr (fails IsBadProperty ended failure.OutOfMemory e (inl refl), same)

module _ {R W : Type 0} (remaining : R → Option (List ℕ)) (contents : W → Option (List ℕ)) (in_old in_new : Tally R) (out_old out_new : Tally W)
    (arguments : ExploreArguments) (ended : Outcome) where
  abbrev Did : SessionSettings → ℕ → ℕ → Outcome → Type 0
  Did settings causes keys =
      FromGiven remaining in_old in_new (out_new ≡ out_old) arguments.is_image arguments.search.source (λ source.
      IfOpens contents out_old out_new (open_fault source) (Searches contents out_old out_new arguments settings causes keys (lines_of source)))

  abbrev WithIts : SessionSettings → Outcome → Type 0
  WithIts settings ended =
      (causes : Option ℕ) × AsksCauses arguments causes × (keys : Option ℕ) × AsksKeys arguments keys
      × IfSet remaining in_old in_new (out_new ≡ out_old) causes (λ causes. IfSet remaining in_old in_new (out_new ≡ out_old) keys (Did settings causes)) ended

  -- a set can't be read
  pub explores_bad : (settings : SessionSettings) (why : Failure) → settings_asked arguments.search.settings ≡ Some settings → ended ≡ Err why → in_new ≡ in_old →
      out_new ≡ out_old → IsBadSets arguments why → Explores remaining contents in_old in_new out_old out_new arguments ended
  explores_bad settings why settled e same quiet bad =
      settles remaining in_old in_new (out_new ≡ out_old) quiet (settings_asked arguments.search.settings) settings WithIts ended settled
      (bad.causes, bad.asks_causes, bad.keys, bad.asks_keys, by_sets bad.causes bad.keys bad.none)
    where
      refuses : Declined remaining in_old in_new (out_new ≡ out_old) IsBadSet ended
      refuses = declines remaining in_old in_new (out_new ≡ out_old) quiet IsBadSet ended why e bad.bad same

      by_sets : (causes keys : Option ℕ) → (causes ≡ None) ⊎ (keys ≡ None) → IfSet remaining in_old in_new (out_new ≡ out_old) causes (λ causes. IfSet remaining in_old in_new (out_new ≡ out_old) keys (Did settings causes)) ended
      by_sets None keys none = refuses
      by_sets (Some causes) None none = refuses
      by_sets (Some causes) (Some keys) (inl none) = absurd (some_is_none none)
      by_sets (Some causes) (Some keys) (inr none) = absurd (some_is_none none)

  module _ (settings : SessionSettings) (causes keys : ℕ) (settled : settings_asked arguments.search.settings ≡ Some settings)
      (asks_causes : AsksCauses arguments (Some causes)) (asks_keys : AsksKeys arguments (Some keys)) where
    with_sets : Did settings causes keys ended → Explores remaining contents in_old in_new out_old out_new arguments ended
    with_sets did =
        subst (λ (o : Option SessionSettings). IfSettled remaining in_old in_new (out_new ≡ out_old) o WithIts ended) (sym settled)
        (inl (Some causes, asks_causes, Some keys, asks_keys, did))

    -- the source can't be read
    pub explores_unread : (why : Failure) → ended ≡ Err why → out_new ≡ out_old → IsNotGiven remaining in_old in_new arguments.is_image arguments.search.source why →
        Explores remaining contents in_old in_new out_old out_new arguments ended
    explores_unread why e quiet unread =
        with_sets
        (given_else remaining in_old in_new (out_new ≡ out_old) arguments.is_image arguments.search.source
        (λ source. IfOpens contents out_old out_new (open_fault source) (Searches contents out_old out_new arguments settings causes keys (lines_of source)))
        ended quiet why e unread)

    -- the source was searched
    pub explores_done : (bytes : List ℕ) → IsGiven remaining in_old in_new arguments.is_image arguments.search.source bytes →
        IfOpens contents out_old out_new (open_fault bytes) (Searches contents out_old out_new arguments settings causes keys (lines_of bytes)) ended →
        Explores remaining contents in_old in_new out_old out_new arguments ended
    explores_done bytes given did =
        with_sets
        (given_then remaining in_old in_new (out_new ≡ out_old) arguments.is_image arguments.search.source
        (λ source. IfOpens contents out_old out_new (open_fault source) (Searches contents out_old out_new arguments settings causes keys (lines_of source)))
        ended bytes given did)
