-- The effects of a command on its input.
use Rattle.std.proofs.Common.{◌≡◌, ◌⊎◌, inl, inr, ℕ, Bool, true, false, List, [], Option, Some, None, Result, Ok, Err, IfErr, length, ◌≤◌, refl, sym, subst}
use Rattle.std.specs.Prelude.{IsErrAnd}
use Rattle.std.specs.Borrow.{Bor}
use Rattle.chip_views.specs.Dis.{source_of_image}
use Rattle.chip_host.specs.Reading.{AsSource, Declined, FromGiven, FromKeys, FromSource, IfSettled, IsImageRefused, IsSourceUnread, WithAsked, IsAsked, IsGiven, IsNotGiven, IsUnasked}
use Rattle.chip_host.specs.Endings.{IsShort, IsUnsettled, Outcome, IsUnreadWithin, is_bad_tape}
use Rattle.chip_host.specs.declared.limits.TheConstants.{KEY_FILE_BYTES}
use Rattle.chip_session.specs.Settings.{SessionSettings}
use Rattle.chip_host.specs.SettingArguments.{settings_asked}
use Rattle.chip_session.specs.Tally.{Tally}
use Rattle.chip_arguments.specs.declared.command_line.RunArguments.{RunArguments}
use Rattle.chip_host.specs.declared.ending.Ending.TheVariants.{Done}
use Rattle.chip_host.specs.declared.ending.Failure.{Failure}
use Rattle.chip_host.specs.declared.ending.Failure.TheVariants as failure
use Rattle.chip_host.specs.declared.reading.AskedRun.{AskedRun}

-- the settings are bad, or memory ran out for them
abbrev pub Unsettles : Option SessionSettings → Failure → Type 0
Unsettles asked why = (why ≡ failure.OutOfMemory) ⊎ ((is_bad_tape why ≡ true) × (asked ≡ None))

pub fails : (Why : Failure → Type 0) (ended : Outcome) (why : Failure) → ended ≡ Err why → Why why → IsErrAnd ended Why
fails Why ended why e w = subst (λ (r : Outcome). IsErrAnd r Why) (sym e) w

module _ {R : Type 0} (remaining : R → Option (List ℕ)) (in_old in_new : Tally R) (Unwritten : Type 0) (quiet : Unwritten) where
  pub declines : (Why : Failure → Type 0) (ended : Outcome) (why : Failure) → ended ≡ Err why → Why why → in_new ≡ in_old →
      Declined remaining in_old in_new Unwritten Why ended
  declines Why ended why e w same = (fails Why ended why e w, same, quiet)

  pub unsettles : (asked : Option SessionSettings) (Did : SessionSettings → Outcome → Type 0) (ended : Outcome) (why : Failure) → ended ≡ Err why →
      in_new ≡ in_old → Unsettles asked why → IfSettled remaining in_old in_new Unwritten asked Did ended
  unsettles None Did ended why e same (inl m) = declines IsUnsettled ended why e (inr m) same
  unsettles None Did ended why e same (inr b) = declines IsUnsettled ended why e (inl b.0) same
  unsettles (Some settings) Did ended why e same (inl m) = inr (declines IsShort ended why e m same)
  unsettles (Some settings) Did ended why e same (inr b) = absurd (some_is_none b.1)
    where
      some_is_none : Some settings ≡ None → ⊥
      some_is_none h = cc

  pub settles : (asked : Option SessionSettings) (settings : SessionSettings) (Did : SessionSettings → Outcome → Type 0) (ended : Outcome) →
      asked ≡ Some settings → Did settings ended → IfSettled remaining in_old in_new Unwritten asked Did ended
  settles asked settings Did ended e did =
      subst (λ (o : Option SessionSettings). IfSettled remaining in_old in_new Unwritten o Did ended) (sym e) (inl did)

  pub source_unread : (name : Bor (List ℕ)) (Did : List ℕ → Outcome → Type 0) (ended : Outcome) (why : Failure) → ended ≡ Err why →
      IsSourceUnread in_old in_new name why → FromSource remaining in_old in_new Unwritten name Did ended
  source_unread name Did ended why e w = inr (fails (IsSourceUnread in_old in_new name) ended why e w, quiet)

  pub keys_read : (keys : Option (Bor (List ℕ))) (bytes : List ℕ) (Did : List ℕ → Outcome → Type 0) (ended : Outcome) →
      (keys ≡ None → bytes ≡ []) → length bytes ≤ KEY_FILE_BYTES → Did bytes ended → FromKeys remaining in_old in_new Unwritten keys Did ended
  keys_read None bytes Did ended none fits did = subst (λ (b : List ℕ). Did b ended) (none refl) did
  keys_read (Some name) bytes Did ended none fits did = inl (bytes, fits, did)

-- from the effects with one ending to the effects with another
module _ {R : Type 0} (remaining : R → Option (List ℕ)) (in_old in_new : Tally R) (U V : Type 0) (ended other : Outcome)
    (errs : (Why : Failure → Type 0) → IsErrAnd ended Why → IsErrAnd other Why × V) where
  declined_next : (Why : Failure → Type 0) → Declined remaining in_old in_new U Why ended → Declined remaining in_old in_new V Why other
  declined_next Why d = let e = errs Why d.0 in (e.0, d.1, e.1)

  source_next : (name : Bor (List ℕ)) (Did Next : List ℕ → Outcome → Type 0) → ((bytes : List ℕ) → Did bytes ended → Next bytes other) →
      FromSource remaining in_old in_new U name Did ended → FromSource remaining in_old in_new V name Next other
  source_next name Did Next f (inl (bytes, gives, did)) = inl (bytes, gives, f bytes did)
  source_next name Did Next f (inr (why, u)) = inr (errs (IsSourceUnread in_old in_new name) why)

  -- the source that some bytes produce
  taken_next : (is_image : Bool) (name : Bor (List ℕ)) (Did Next : List ℕ → Outcome → Type 0) → ((bytes : List ℕ) → Did bytes ended → Next bytes other) →
      (bytes : List ℕ) → AsSource is_image name U Did bytes ended → AsSource is_image name V Next bytes other
  taken_next false name Did Next f bytes did = f bytes did
  taken_next true name Did Next f image (inl (short, did)) = inl (short, f (source_of_image image) did)
  taken_next true name Did Next f image (inr (why, u)) = inr (errs (IsImageRefused name image) why)

  pub given_next : (is_image : Bool) (name : Bor (List ℕ)) (Did Next : List ℕ → Outcome → Type 0) → ((bytes : List ℕ) → Did bytes ended → Next bytes other) →
      FromGiven remaining in_old in_new U is_image name Did ended → FromGiven remaining in_old in_new V is_image name Next other
  given_next is_image name Did Next f =
      source_next name (AsSource is_image name U Did) (AsSource is_image name V Next) (taken_next is_image name Did Next f)

  keys_next : (keys : Option (Bor (List ℕ))) (Did Next : List ℕ → Outcome → Type 0) → ((bytes : List ℕ) → Did bytes ended → Next bytes other) →
      FromKeys remaining in_old in_new U keys Did ended → FromKeys remaining in_old in_new V keys Next other
  keys_next None Did Next f did = f [] did
  keys_next (Some name) Did Next f (inl (bytes, fits, did)) = inl (bytes, fits, f bytes did)
  keys_next (Some name) Did Next f (inr d) = inr (declined_next (IsUnreadWithin KEY_FILE_BYTES name) d)

  settled_next : (asked : Option SessionSettings) (Did Next : SessionSettings → Outcome → Type 0) →
      ((settings : SessionSettings) → Did settings ended → Next settings other) →
      IfSettled remaining in_old in_new U asked Did ended → IfSettled remaining in_old in_new V asked Next other
  settled_next None Did Next f d = declined_next IsUnsettled d
  settled_next (Some settings) Did Next f (inl did) = inl (f settings did)
  settled_next (Some settings) Did Next f (inr d) = inr (declined_next IsShort d)

  pub asked_next : (arguments : RunArguments) (Did Next : SessionSettings → List ℕ → List ℕ → Outcome → Type 0) →
      ((settings : SessionSettings) (keys source : List ℕ) → Did settings keys source ended → Next settings keys source other) →
      WithAsked remaining in_old in_new U arguments Did ended → WithAsked remaining in_old in_new V arguments Next other
  asked_next arguments Did Next f =
      settled_next (settings_asked arguments.settings)
      (λ settings. FromKeys remaining in_old in_new U arguments.keys (λ keys. FromGiven remaining in_old in_new U arguments.is_image arguments.source (Did settings keys)))
      (λ settings. FromKeys remaining in_old in_new V arguments.keys (λ keys. FromGiven remaining in_old in_new V arguments.is_image arguments.source (Next settings keys)))
      (λ settings. keys_next arguments.keys
      (λ keys. FromGiven remaining in_old in_new U arguments.is_image arguments.source (Did settings keys))
      (λ keys. FromGiven remaining in_old in_new V arguments.is_image arguments.source (Next settings keys))
      (λ keys. given_next arguments.is_image arguments.source (Did settings keys) (Next settings keys) (f settings keys)))

module _ {R : Type 0} (remaining : R → Option (List ℕ)) (in_old in_new : Tally R) (V : Type 0) (is_image : Bool) (name : Bor (List ℕ))
    (Did : List ℕ → Outcome → Type 0) (ended : Outcome) where
  -- a source was read, and then the command had these effects
  pub given_then : (source : List ℕ) → IsGiven remaining in_old in_new is_image name source → Did source ended →
      FromGiven remaining in_old in_new V is_image name Did ended
  given_then source given did =
      given_next remaining in_old in_new (Unit {0}) V (Ok Done) ended (λ Why h. absurd h) is_image name (λ taken done. taken ≡ source) Did
      (λ taken e. rw e did) given

  -- the source wasn't read
  pub given_else : (quiet : V) (why : Failure) → ended ≡ Err why → IsNotGiven remaining in_old in_new is_image name why →
      FromGiven remaining in_old in_new V is_image name Did ended
  given_else quiet why e unread =
      given_next remaining in_old in_new (Unit {0}) V (Err why) ended (λ Why h. (fails Why ended why e h, quiet)) is_image name (λ taken done. ⊥) Did
      (λ taken none. absurd none) unread

module _ {R : Type 0} (remaining : R → Option (List ℕ)) (in_old in_new : Tally R) (V : Type 0) (arguments : RunArguments)
    (Did : SessionSettings → List ℕ → List ℕ → Outcome → Type 0) (ended : Outcome) where
  -- the input of a run was read, and then the command had these effects
  pub asked_then : (asked : AskedRun) → IsAsked remaining in_old in_new arguments asked →
      Did asked.settings asked.keys.bytes.items asked.source.items ended → WithAsked remaining in_old in_new V arguments Did ended
  asked_then asked is did =
      asked_next remaining in_old in_new (Unit {0}) V (Ok Done) ended (λ Why h. absurd h) arguments
      (λ settings keys source done. (settings ≡ asked.settings) × (keys ≡ asked.keys.bytes.items) × (source ≡ asked.source.items)) Did
      (λ settings keys source e. rw (e.0, e.1, e.2) did) is.0

  -- the input of a run wasn't read
  pub asked_not : (quiet : V) (why : Failure) → ended ≡ Err why → IsUnasked remaining in_old in_new arguments why →
      WithAsked remaining in_old in_new V arguments Did ended
  asked_not quiet why e is =
      asked_next remaining in_old in_new (Unit {0}) V (Err why) ended (λ Why h. (fails Why ended why e h, quiet)) arguments
      (λ settings keys source done. ⊥) Did (λ settings keys source none. absurd none) is

module _ {R : Type 0} (remaining : R → Option (List ℕ)) (in_old in_new : Tally R) (arguments : RunArguments) where
  -- the input that a run's arguments ask for was read
  pub asked_is : (asked : AskedRun) → settings_asked arguments.settings ≡ Some asked.settings → (arguments.keys ≡ None → asked.keys.bytes.items ≡ []) →
      length asked.keys.bytes.items ≤ KEY_FILE_BYTES → IsGiven remaining in_old in_new arguments.is_image arguments.source asked.source.items → IsAsked remaining in_old in_new arguments asked
  asked_is asked settled keys fits given = (
    settles remaining in_old in_new (Unit {0}) tt (settings_asked arguments.settings) asked.settings
        (λ settings. FromKeys remaining in_old in_new (Unit {0}) arguments.keys (λ keys. FromGiven remaining in_old in_new (Unit {0}) arguments.is_image arguments.source
        (λ source ended. (settings ≡ asked.settings) × (keys ≡ asked.keys.bytes.items) × (source ≡ asked.source.items))))
        (Ok Done) settled
        (keys_read remaining in_old in_new (Unit {0}) tt arguments.keys asked.keys.bytes.items
        (λ keys. FromGiven remaining in_old in_new (Unit {0}) arguments.is_image arguments.source
        (λ source ended. (asked.settings ≡ asked.settings) × (keys ≡ asked.keys.bytes.items) × (source ≡ asked.source.items))) (Ok Done) keys fits
        (given_next remaining in_old in_new (Unit {0}) (Unit {0}) (Ok Done) (Ok Done) (λ Why h. (h, tt)) arguments.is_image arguments.source
        (λ source ended. source ≡ asked.source.items)
        (λ source ended. (asked.settings ≡ asked.settings) × (asked.keys.bytes.items ≡ asked.keys.bytes.items) × (source ≡ asked.source.items))
        (λ source e. (refl, refl, e)) given)),
    settled,
  )

  -- the source wasn't read
  pub unasked_source : {T : Type 0} (settings : SessionSettings) (bytes : List ℕ) (result : Result T Failure) (why : Failure) → result ≡ Err why →
      settings_asked arguments.settings ≡ Some settings → (arguments.keys ≡ None → bytes ≡ []) → length bytes ≤ KEY_FILE_BYTES → IsNotGiven remaining in_old in_new arguments.is_image arguments.source why →
      IfErr result (λ y. IsUnasked remaining in_old in_new arguments y)
  unasked_source {T} settings bytes result why e settled keys fits w =
      subst (λ (r : Result T Failure). IfErr r (λ y. IsUnasked remaining in_old in_new arguments y)) (sym e)
      (settles remaining in_old in_new (Unit {0}) tt (settings_asked arguments.settings) settings
      (λ settings. FromKeys remaining in_old in_new (Unit {0}) arguments.keys (λ keys. FromGiven remaining in_old in_new (Unit {0}) arguments.is_image arguments.source (λ source ended. ⊥)))
      (Err why) settled
      (keys_read remaining in_old in_new (Unit {0}) tt arguments.keys bytes
      (λ keys. FromGiven remaining in_old in_new (Unit {0}) arguments.is_image arguments.source (λ source ended. ⊥)) (Err why) keys fits w))
