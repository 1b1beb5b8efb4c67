-- What the command `prove` did with a source.
use Rattle.std.proofs.Common.{◌≡◌, ◌⊎◌, inl, inr, ℕ, Bool, true, false, List, [], ◌++◌, Option, Some, None, Result, Ok, Err, refl, sym, ◌∙◌, ap, subst}
use Rattle.std.specs.Prelude.{OnOk, is_none, option_copied, if◌then◌else◌}
use Rattle.chip_arguments.specs.declared.command_line.ProveArguments.{ProveArguments}
use Rattle.chip_asm.specs.Lines.{lines_of, open_fault}
use Rattle.chip_asm.specs.LineViews.{LineFacts}
use Rattle.chip_asm.specs.Program.{image_of}
use Rattle.chip_check.specs.Check.{Print}
use Rattle.chip_check.specs.PropertyFaults.{IsPropertyFault}
use Rattle.chip_properties.specs.declared.fault.PropertyFault.{PropertyFault}
use Rattle.chip_analysis.specs.Proving.{IsReportIf}
use Rattle.chip_asm.specs.declared.refusal.OpenError.{OpenError}
use Rattle.chip_asm.specs.declared.refusal.OpenError.TheVariants as unopened
use Rattle.chip_machine.specs.Start.{start_of}
use Rattle.chip_properties.specs.Properties.{AreProperties}
use Rattle.chip_properties.specs.declared.properties.Properties.{Properties}
use Rattle.chip_session.specs.Settings.{SessionSettings}
use Rattle.chip_session.specs.Tally.{Tally}
use Rattle.chip_host.specs.Printing.{Fails, Prints, ending_with, printed}
use Rattle.chip_host.specs.Reading.{FromSource, GivesSource, IfSettled, IsSourceUnread, image_in}
use Rattle.chip_analysis.specs.Commands.{IfSet, IsBadSet, Proves, ProvesBy, ProvesWith, faults_alone}
use Rattle.chip_host.specs.Endings.{IsShort, Outcome}
use Rattle.chip_analysis.specs.Exploring.{AsksSet, key_named, usual_keys}
use Rattle.chip_analysis.specs.Checking.{AreWarned, IsCheckText, IsPrintedCheckOf, unopened_check}
use Rattle.chip_host.specs.SettingArguments.{settings_asked}
use Rattle.chip_host.specs.declared.ending.Ending.TheVariants.{Faulty}
use Rattle.chip_host.specs.declared.ending.Failure.{Failure}
use Rattle.chip_host.specs.declared.ending.Failure.TheVariants as failure
use Rattle.chip_host.proofs.ReadingLemmas.{Unsettles, declines, fails, source_unread, unsettles}

-- the report on a property that can't be read
module _ (print : Print) (fault : PropertyFault) where
  pub unasked : (asked : Bool) (line : Option LineFacts) → asked ≡ false → IsReportIf asked print line fault []
  unasked false line none = refl
  unasked true line none = cc

  pub unlined : (asked : Bool) (line : Option LineFacts) → None ≡ line → IsReportIf asked print line fault []
  unlined false line none = refl
  unlined true line none = subst (λ o. IsReportIf true print o fault []) none refl

  pub reported : (asked : Bool) (line : Option LineFacts) (facts : LineFacts) (text added : List ℕ) → asked ≡ true → Some facts ≡ line → text ≡ facts.text →
      IsPropertyFault print text fault added → IsReportIf asked print line fault added
  reported true line facts text added is some same told =
      subst (λ o. IsReportIf true print o fault added) some (subst (λ t. IsPropertyFault print t fault added) same told)
  reported false line facts text added is some same told = cc

  pub reported_by : {T E : Type 0} (result : Result T E) (asked : Bool) (line : Option LineFacts) (facts : LineFacts) (text old new : List ℕ) →
      asked ≡ true → Some facts ≡ line → text ≡ facts.text →
      OnOk result ((added : List ℕ) × IsPropertyFault print text fault added × (new ≡ old ++ added)) →
      OnOk result ((added : List ℕ) × IsReportIf asked print line fault added × (new ≡ old ++ added))
  reported_by (Ok t) asked line facts text old new is some same told = (told.0, reported asked line facts text told.0 is some same told.1, told.2)
  reported_by (Err e) asked line facts text old new is some same told = tt

module _ {W : Type 0} (contents : W → Option (List ℕ)) (out_old out_new : Tally W) (arguments : ProveArguments) (settings : SessionSettings) (keys : ℕ)
    (bytes : List ℕ) (ended : Outcome) where
  abbrev pub By : Option (List ℕ) → Type 0
  By image = ProvesBy contents out_old out_new arguments settings keys image bytes ended

  -- memory ran out
  pub by_short : (image : Option (List ℕ)) → ended ≡ Err failure.OutOfMemory → out_new ≡ out_old → By image
  by_short None e same = inr (e, same)
  by_short (Some image) e same = inr (fails IsShort ended failure.OutOfMemory e refl, same)

  -- the source doesn't open
  pub by_unopened : (error : OpenError) → (error ≡ unopened.OutOfMemory) ⊎ (open_fault bytes ≡ Some error) →
      Prints contents out_old out_new (printed (unopened_check arguments.is_json false arguments.search.source.now error) Faulty) ended →
      (error ≡ unopened.OutOfMemory → (ended ≡ Err failure.OutOfMemory) × (out_new ≡ out_old)) → By (image_in bytes)
  by_unopened error (inl memory) prints short = let s = short memory in by_short (image_in bytes) s.0 s.1
  by_unopened error (inr fault) prints short =
      let none : image_in bytes ≡ None = ap (λ (o : Option OpenError). if is_none o then image_of (lines_of bytes) else None) fault in
      let is = subst (λ (o : Option OpenError). IsPrintedCheckOf (faults_alone arguments.is_json settings) arguments.search.source.now o (lines_of bytes)
      (printed (unopened_check arguments.is_json false arguments.search.source.now error) Faulty)) (sym fault) refl in
      subst (λ (image : Option (List ℕ)). By image) (sym none) (inl (printed (unopened_check arguments.is_json false arguments.search.source.now error) Faulty, is, prints))

  -- the source opens, and has no image
  pub by_faults : (lines : List (List ℕ)) (text : List ℕ) → open_fault bytes ≡ None → lines ≡ lines_of bytes → None ≡ image_of lines →
      IsCheckText arguments.is_json false arguments.search.source.now lines [] text → Prints contents out_old out_new (printed text Faulty) ended →
      By (image_in bytes)
  by_faults lines text opens same none is prints =
      let none_there : image_of (lines_of bytes) ≡ None = sym (subst (λ (l : List (List ℕ)). None ≡ image_of l) same none) in
      let is_there = subst (λ (l : List (List ℕ)). IsCheckText arguments.is_json false arguments.search.source.now l [] text) same is in
      let none : image_in bytes ≡ None = ap (λ (o : Option OpenError). if is_none o then image_of (lines_of bytes) else None) opens ∙ none_there in
      let unwarned : AreWarned (faults_alone arguments.is_json settings) (lines_of bytes) [] = rw none_there refl in
      let shown = subst (λ (o : Option OpenError). IsPrintedCheckOf (faults_alone arguments.is_json settings) arguments.search.source.now o (lines_of bytes) (printed text Faulty))
      (sym opens) ([], unwarned, is_there, sym (ap ending_with none_there)) in
      subst (λ (image : Option (List ℕ)). By image) (sym none) (inl (printed text Faulty, shown, prints))

  -- the source opens, and has an image
  pub by_machine : (lines : List (List ℕ)) (image : List ℕ) → open_fault bytes ≡ None → lines ≡ lines_of bytes → Some image ≡ image_of lines →
      ((properties : Properties) × AreProperties lines properties × ProvesWith contents out_old out_new arguments lines settings.rate keys (start_of image settings.tape settings.quirks) properties ended)
      ⊎ Fails contents out_old out_new IsShort ended → By (image_in bytes)
  by_machine lines image opens same some did =
      let there : image_of (lines_of bytes) ≡ Some image = sym (subst (λ (l : List (List ℕ)). Some image ≡ image_of l) same some) in
      rw (opens, there)
      (subst (λ (l : List (List ℕ)).
      ((properties : Properties) × AreProperties l properties × ProvesWith contents out_old out_new arguments l settings.rate keys (start_of image settings.tape settings.quirks) properties ended)
      ⊎ Fails contents out_old out_new IsShort ended) same did)

module _ {R W : Type 0} (remaining : R → Option (List ℕ)) (contents : W → Option (List ℕ)) (in_old in_new : Tally R) (out_old out_new : Tally W)
    (arguments : ProveArguments) (ended : Outcome) where
  abbrev Did : SessionSettings → ℕ → Outcome → Type 0
  Did settings keys =
      FromSource remaining in_old in_new (out_new ≡ out_old) arguments.search.source (λ source.
      ProvesBy contents out_old out_new arguments settings keys (image_in source) source)

  abbrev WithKeys : SessionSettings → Outcome → Type 0
  WithKeys settings ended =
      (keys : Option ℕ) × AsksSet key_named usual_keys (option_copied arguments.search.allowed_keys) keys
      × IfSet remaining in_old in_new (out_new ≡ out_old) keys (Did settings) ended

  -- there are no settings
  pub proves_unsettled : (why : Failure) → ended ≡ Err why → in_new ≡ in_old → out_new ≡ out_old → Unsettles (settings_asked arguments.search.settings) why →
      Proves remaining contents in_old in_new out_old out_new arguments ended
  proves_unsettled why e same quiet u =
      unsettles remaining in_old in_new (out_new ≡ out_old) quiet (settings_asked arguments.search.settings) WithKeys ended why e same u

  module _ (settings : SessionSettings) (settled : settings_asked arguments.search.settings ≡ Some settings) where
    with_keys : WithKeys settings ended → Proves remaining contents in_old in_new out_old out_new arguments ended
    with_keys did =
        subst (λ (o : Option SessionSettings). IfSettled remaining in_old in_new (out_new ≡ out_old) o WithKeys ended) (sym settled) (inl did)

    -- the keys can't be read
    pub proves_bad : (why : Failure) → ended ≡ Err why → in_new ≡ in_old → out_new ≡ out_old → IsBadSet why →
        AsksSet key_named usual_keys (option_copied arguments.search.allowed_keys) None → Proves remaining contents in_old in_new out_old out_new arguments ended
    proves_bad why e same quiet bad asks = with_keys (None, asks, declines remaining in_old in_new (out_new ≡ out_old) quiet IsBadSet ended why e bad same)

    module _ (keys : ℕ) (asks : AsksSet key_named usual_keys (option_copied arguments.search.allowed_keys) (Some keys)) where
      -- the source can't be read
      pub proves_unread : (why : Failure) → ended ≡ Err why → out_new ≡ out_old → IsSourceUnread in_old in_new arguments.search.source why →
          Proves remaining contents in_old in_new out_old out_new arguments ended
      proves_unread why e quiet unread =
          with_keys (
            Some keys,
            asks,
            source_unread remaining in_old in_new (out_new ≡ out_old) quiet arguments.search.source
                (λ source. ProvesBy contents out_old out_new arguments settings keys (image_in source) source) ended why e unread,
          )

      -- the source was read
      pub proves_done : (bytes : List ℕ) → GivesSource remaining in_old in_new arguments.search.source.now bytes →
          ProvesBy contents out_old out_new arguments settings keys (image_in bytes) bytes ended →
          Proves remaining contents in_old in_new out_old out_new arguments ended
      proves_done bytes gives did = with_keys (Some keys, asks, inl (bytes, gives, did))
