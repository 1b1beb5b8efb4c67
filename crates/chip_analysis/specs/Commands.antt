-- The effects of `check`, `explore` and `prove` (chosen by this project).
--     IsBadSet, IsBadProperty, IsScriptUnwritten    what hinders them
--     IfSet                          what a command did with the set that an argument asks for
--     ChecksOne, ChecksEach, Checks  what `check` did with one source, with several, and for its arguments
--     SearchesFrom, ExcludesOrSearches, Searches, Explores    what `explore` did with a machine, with a target,
--                                    with a source, and for its arguments
--     ProvesFrom, ProvesWith, ProvesBy, Proves    what `prove` did with properties, with those that are asked
--                                    for, with a source, and for its arguments
use Rattle.std.specs.Prelude.{◌≡◌, ◌⊎◌, ℕ, Bool, true, false, List, [], ◌∷◌, Option, Some, None, MatchOption, MatchResult, option_copied, Ok, Err, IsErrAnd, IfOk, IfSome}
use Rattle.std.specs.Borrow.{Bor}
use Rattle.chip_asm.specs.Lines.{lines_of, open_fault}
use Rattle.chip_asm.specs.Program.{image_of, symbols_of}
use Rattle.chip_analysis.specs.Checking.{Checking, IsPrintedCheckOf, gives_tape, with_ending, paints}
use Rattle.chip_host.specs.Printing.{Printed, IfOpens, Streams, WritesFront, PrintsSuch, Prints, printed_faults, Fails}
use Rattle.chip_host.specs.SettingArguments.{settings_asked}
use Rattle.chip_session.specs.Settings.{SessionSettings}
use Rattle.chip_session.specs.Tally.{Tally}
use Rattle.chip_analysis.specs.Exploring.{AreLeft, AsksCauses, AsksKeys, AsksProperty, AsksSet, IsExclusionPrinted, IsSearchPrinted, key_named, target_asked, usual_keys, warning_named}
use Rattle.chip_analysis.specs.Proving.{Answered, AreAnswered, IsProofPrinted, asked_of, has_faults, unstated_line}
use Rattle.chip_properties.specs.Properties.{AreProperties}
use Rattle.chip_properties.specs.declared.fault.PropertyFault.{PropertyFault}
use Rattle.chip_properties.specs.declared.properties.Properties.{Properties}
use Rattle.chip_properties.specs.declared.stated.Stated.{Stated}
use Rattle.chip_explore.specs.declared.property.Property.{Property}
use Rattle.chip_explore.specs.Answers.{Answers, AreExecuted}
use Rattle.chip_explore.specs.Speeds.{NeverAtAnySpeed}
use Rattle.chip_explore.specs.declared.question.Explored.{Explored}
use Rattle.chip_explore.specs.declared.target.Target.{Target}
use Rattle.chip_facts.specs.declared.table.Left.{Left}
use Rattle.chip_verdicts.specs.Verdict.{NeverMet}
use Rattle.chip_machine.specs.Start.{start_of}
use Rattle.chip_machine.specs.State.{State}
use Rattle.chip_arguments.specs.declared.command_line.CheckArguments.{CheckArguments}
use Rattle.chip_arguments.specs.declared.command_line.ExploreArguments.{ExploreArguments}
use Rattle.chip_arguments.specs.declared.command_line.ProveArguments.{ProveArguments}
use Rattle.chip_host.specs.declared.ending.Ending.TheVariants.{Done}
use Rattle.chip_host.specs.declared.ending.Failure.{Failure}
use Rattle.chip_host.specs.declared.ending.Failure.TheVariants as failure
use Rattle.chip_host.specs.declared.ending.Report.{Report}
use Rattle.chip_host.specs.Endings.{Outcome, IsShort, IsUnwritten}
use Rattle.chip_host.specs.Reading.{image_in, Declined, FromSource, FromGiven, IfSettled}

-- a text that names no set of stop causes, of keys or of warnings
abbrev pub IsBadSet : Failure → Type 0
IsBadSet why =
    ((text : Bor (List ℕ)) × (why ≡ failure.BadCauses text))
    ⊎ ((text : Bor (List ℕ)) × (why ≡ failure.BadPlayerKeys text))
    ⊎ ((text : Bor (List ℕ)) × (why ≡ failure.BadWarnings text))

-- a property that can't be read, or memory that ran out
abbrev pub IsBadProperty : Failure → Type 0
IsBadProperty why =
    (why ≡ failure.OutOfMemory) ⊎ ((report : Report) × (why ≡ failure.BadProperty report))

-- the failures that hinder writing the script that was found
abbrev pub IsScriptUnwritten : Option (Bor (List ℕ)) → Failure → Type 0
IsScriptUnwritten None why = ⊥
IsScriptUnwritten (Some name) why = IsUnwritten name why

-- what is asked of `check` for the faults alone
abbrev pub faults_alone : (is_json : Bool) → SessionSettings → Checking
faults_alone is_json settings = record {
  is_json = is_json;
  is_painted = false;
  is_covering = false;
  has_tape = false;
  allowed = 0;
  settings = settings;
}

module _ {R : Type 0} (remaining : R → Option (List ℕ)) (in_old in_new : Tally R)
    (Unwritten : Type 0) where
  -- a command with the set that an argument asks for, or why it has none
  abbrev pub IfSet : Option ℕ → (ℕ → Outcome → Type 0) → Outcome → Type 0
  IfSet (Some set) Did ended = Did set ended
  IfSet None Did ended = Declined remaining in_old in_new Unwritten IsBadSet ended

module _ {W : Type 0} (contents : W → Option (List ℕ)) (out_old out_new : Tally W) where
  -- The answer of a search over all key scripts of a machine is printed, and it may hold at all speeds of the
  -- timers. The stops that facts leave follow, if there are facts, and then, if asked for, the listing of
  -- these lines with marks at what is executed.
  abbrev pub SearchesFrom : ExploreArguments → (lines : List (List ℕ)) → (rate keys : ℕ) → Target
      → (left : Option (List Left)) → State → Outcome → Type 0
  SearchesFrom arguments lines rate keys target left start ended =
      ((explored : Explored) × Answers rate keys target start explored.outcome
      × AreExecuted rate keys explored.executed start explored.outcome
      × (explored.is_at_any_speed ≡ true → NeverAtAnySpeed keys target start)
      × PrintsSuch contents out_old out_new (IsSearchPrinted arguments lines target.causes left explored) ended)
      ⊎ Fails contents out_old out_new (IsScriptUnwritten arguments.search.keys_to) ended

  -- Either the machines of the image never meet the target, with any keys, random bytes and speed, and that
  -- is printed; or a search is made and its answer is printed.
  abbrev pub ExcludesOrSearches : ExploreArguments → SessionSettings → (keys : ℕ)
      → (lines : List (List ℕ)) → (image : List ℕ) → Target → Outcome → Type 0
  ExcludesOrSearches arguments settings keys lines image target ended =
      (NeverMet image settings.quirks target
      × PrintsSuch contents out_old out_new (IsExclusionPrinted arguments.search.is_any_speed) ended)
      ⊎ ((left : Option (List Left)) × IfSome left (AreLeft image settings.quirks)
      × SearchesFrom arguments lines settings.rate keys target left
      (start_of image settings.tape settings.quirks) ended)

  -- `explore` with a source: if the lines have an image, its machine is searched for the property that the
  -- arguments state and for their place, if the lines have that place; otherwise the faults are printed.
  abbrev pub Searches : ExploreArguments → SessionSettings → (causes keys : ℕ)
      → (lines : List (List ℕ)) → Outcome → Type 0
  Searches arguments settings causes keys lines ended =
      MatchOption (image_of lines) (Prints contents out_old out_new (printed_faults lines) ended)
      (λ image. ((properties : Bor (List Property))
      × AsksProperty arguments lines properties.now
      × MatchOption
      (target_asked causes (option_copied arguments.place) properties (symbols_of lines))
      (Fails contents out_old out_new (λ why. (text : Bor (List ℕ)) × (why ≡ failure.BadPlace text)) ended)
      (λ target. ExcludesOrSearches arguments settings keys lines image target ended))
      ⊎ Fails contents out_old out_new IsBadProperty ended)

  -- The answers to these properties are printed, each as soon as it is found: all of them if nothing hindered
  -- that, or the first part of the text if a script couldn't be written.
  abbrev pub ProvesFrom : ProveArguments → (lines : List (List ℕ)) → (rate keys : ℕ) → State
      → (asked : List Stated) → List PropertyFault → Outcome → Type 0
  ProvesFrom arguments lines rate keys start asked faults ended =
      (given : List Answered) × (left : List Stated) × (wanted : Printed)
      × AreAnswered rate keys start asked given left
      × IfOk ended (λ ending. left ≡ [])
      × IsProofPrinted arguments lines faults given wanted
      × (Streams contents out_old out_new wanted ended
      ⊎ (IsErrAnd ended (IsScriptUnwritten arguments.search.keys_to)
      × WritesFront contents out_old out_new wanted.text))

  -- `prove` with those of a source's properties that are asked for, unless the line that the arguments name
  -- has none
  abbrev pub ProvesWith : ProveArguments → (lines : List (List ℕ)) → (rate keys : ℕ) → State
      → Properties → Outcome → Type 0
  ProvesWith arguments lines rate keys start properties ended =
      let asked = asked_of arguments.only properties.stated.items in
      let faults = properties.faults.items in
      MatchOption (unstated_line arguments.only asked (has_faults arguments.only faults))
      (ProvesFrom arguments lines rate keys start asked faults ended)
      (λ line. Fails contents out_old out_new (λ why. why ≡ failure.NoProperty line) ended)

  -- `prove` with a source: if the source has an image, its properties are answered for its machine; otherwise
  -- its faults are printed as `check` prints them.
  abbrev pub ProvesBy : ProveArguments → SessionSettings → (keys : ℕ) → Option (List ℕ)
      → (source : List ℕ) → Outcome → Type 0
  ProvesBy arguments settings keys (Some image) source ended =
      ((properties : Properties) × AreProperties (lines_of source) properties
      × ProvesWith arguments (lines_of source) settings.rate keys
      (start_of image settings.tape settings.quirks) properties ended)
      ⊎ Fails contents out_old out_new IsShort ended
  ProvesBy arguments settings keys None source ended =
      PrintsSuch contents out_old out_new (IsPrintedCheckOf (faults_alone arguments.is_json settings)
      arguments.search.source.now (open_fault source) (lines_of source)) ended

-- what the arguments ask of `check`, with these settings, and with this set of warnings switched off
abbrev pub checking_asked : (takes_color : Bool) → CheckArguments → SessionSettings → (allowed : ℕ)
    → Checking
checking_asked takes_color arguments settings allowed = record {
  is_json = arguments.is_json;
  is_painted = paints arguments.color takes_color;
  is_covering = arguments.is_covering;
  has_tape = gives_tape arguments.settings;
  allowed = allowed;
  settings = settings;
}

-- `check`, source by source
module _ {R W : Type 0} (remaining : R → Option (List ℕ)) (contents : W → Option (List ℕ))
    (checking : Checking) where
  -- the effects of `check` on one source
  abbrev pub ChecksOne : Bor (List ℕ) → (in_old in_new : Tally R) → (out_old out_new : Tally W)
      → Outcome → Type 0
  ChecksOne name in_old in_new out_old out_new ended =
      FromSource remaining in_old in_new (out_new ≡ out_old) name (λ bytes.
      PrintsSuch contents out_old out_new (IsPrintedCheckOf checking name.now
      (open_fault bytes) (lines_of bytes))) ended

  -- the effects of `check` on several sources, one after another; whatever hinders one of them ends the check
  abbrev pub ChecksEach : List (Bor (List ℕ)) → (in_old in_new : Tally R)
      → (out_old out_new : Tally W) → Outcome → Type 0
  ChecksEach [] in_old in_new out_old out_new ended =
      (in_new ≡ in_old) × (out_new ≡ out_old) × (ended ≡ Ok Done)
  ChecksEach (name ∷ names) in_old in_new out_old out_new ended =
      (in_mid : Tally R) × (out_mid : Tally W) × (first : Outcome)
      × ChecksOne name in_old in_mid out_old out_mid first
      × MatchResult first
      (λ ending. (later : Outcome) × ChecksEach names in_mid in_new out_mid out_new later
      × (ended ≡ with_ending ending later))
      (λ why. ((in_new ≡ in_mid) × (out_new ≡ out_mid)) × (ended ≡ Err why))

module _ {R W : Type 0} (remaining : R → Option (List ℕ)) (contents : W → Option (List ℕ))
    (in_old in_new : Tally R) (out_old out_new : Tally W) where
  -- `check`
  abbrev pub Checks : (takes_color : Bool) → CheckArguments → Outcome → Type 0
  Checks takes_color arguments ended =
      IfSettled remaining in_old in_new (out_new ≡ out_old) (settings_asked arguments.settings)
      (λ settings ended. (allowed : Option ℕ)
      × AsksSet warning_named 0 (option_copied arguments.allowed) allowed
      × IfSet remaining in_old in_new (out_new ≡ out_old) allowed (λ set.
      ChecksEach remaining contents (checking_asked takes_color arguments settings set)
      arguments.sources.items in_old in_new out_old out_new) ended) ended

  -- `explore`
  abbrev pub Explores : ExploreArguments → Outcome → Type 0
  Explores arguments ended =
      IfSettled remaining in_old in_new (out_new ≡ out_old) (settings_asked arguments.search.settings)
      (λ settings ended. (causes : Option ℕ) × AsksCauses arguments causes
      × (keys : Option ℕ) × AsksKeys arguments keys
      × IfSet remaining in_old in_new (out_new ≡ out_old) causes (λ causes.
      IfSet remaining in_old in_new (out_new ≡ out_old) keys (λ keys.
      FromGiven remaining in_old in_new (out_new ≡ out_old) arguments.is_image arguments.search.source
      (λ source. IfOpens contents out_old out_new (open_fault source)
      (Searches contents out_old out_new arguments settings causes keys (lines_of source))))) ended) ended

  -- `prove`
  abbrev pub Proves : ProveArguments → Outcome → Type 0
  Proves arguments ended =
      IfSettled remaining in_old in_new (out_new ≡ out_old) (settings_asked arguments.search.settings)
      (λ settings ended. (keys : Option ℕ)
      × AsksSet key_named usual_keys (option_copied arguments.search.allowed_keys) keys
      × IfSet remaining in_old in_new (out_new ≡ out_old) keys (λ set.
      FromSource remaining in_old in_new (out_new ≡ out_old) arguments.search.source (λ source.
      ProvesBy contents out_old out_new arguments settings set (image_in source) source)) ended) ended
