-- The input of commands: sources, images, files of key events and settings (chosen by this project).
--     GivesSource                    the bytes of a source of that name
--     AsSource                       the effects of a command on the source that some bytes produce
--     FromSource, FromGiven, FromKeys, IfSettled, WithAsked    the effects of a command on the bytes that it
--                                    read, or why it read none
--     IsTaken, IsGiven, IsAsked      the input that was read is the input that was asked for
-- No contract states which bytes a file contains or receives: about a file's bytes, these definitions
-- state only that they exist.
use Rattle.std.specs.Prelude.{◌≡◌, ◌≢◌, ◌⊎◌, ℕ, ◌<◌, ◌≤◌, Bool, true, false, List, [], codes, length, take, Option, Some, None, IfSome, is_none, Ok, Err, IsErrAnd, if◌then◌else◌, ◌+◌}
use Rattle.std.specs.Borrow.{Bor}
use Rattle.chip_asm.specs.Lines.{lines_of, open_fault}
use Rattle.chip_asm.specs.Program.{image_of}
use Rattle.chip_lang.specs.declared.limits.TheConstants.{IMAGE_BYTES}
use Rattle.chip_views.specs.Dis.{source_of_image}
use Rattle.chip_host.specs.Endings.{IsUnread, IsUnreadWithin, Outcome, IsShort, IsUnsettled}
use Rattle.chip_host.specs.declared.limits.TheConstants.{KEY_FILE_BYTES}
use Rattle.chip_host.specs.SettingArguments.{settings_asked}
use Rattle.chip_session.specs.Settings.{SessionSettings}
use Rattle.chip_session.specs.Tally.{Tally}
use Rattle.chip_arguments.specs.declared.command_line.RunArguments.{RunArguments}
use Rattle.chip_host.specs.declared.ending.Ending.TheVariants.{Done}
use Rattle.chip_host.specs.declared.ending.Failure.{Failure}
use Rattle.chip_host.specs.declared.ending.Failure.TheVariants as failure
use Rattle.chip_asm.specs.declared.limits.TheConstants.{SOURCE_BYTES}
use Rattle.chip_host.specs.declared.reading.AskedRun.{AskedRun}

-- the name that means standard input instead of a source's file
abbrev pub standard_input : List ℕ
standard_input = codes "-"

-- the maximum number of bytes that are read of a source; a source of that length or more doesn't open
abbrev pub source_bytes_read : ℕ
source_bytes_read = SOURCE_BYTES + 1

-- the image of a source that opens and has no fault
abbrev pub image_in : List ℕ → Option (List ℕ)
image_in source = if is_none (open_fault source) then image_of (lines_of source) else None

module _ {R : Type 0} (remaining : R → Option (List ℕ)) (in_old in_new : Tally R) where
  -- The bytes of a source. If the name is `-`, the bytes come from standard input, up to a length at which no
  -- source opens. For any other name, standard input isn't read.
  pub record GivesSource (name bytes : List ℕ) : Type 0 where
    pub given : name ≡ standard_input
        → IfSome (remaining in_old.inner) (λ all. bytes ≡ take source_bytes_read all)
    pub untouched : name ≢ standard_input → in_new ≡ in_old

module _ {R : Type 0} (in_old in_new : Tally R) where
  -- the possible failures of reading standard input: a read failed, or memory ran out and no read failed
  abbrev pub IsInputUnread : Failure → Type 0
  IsInputUnread why =
      ((why ≡ failure.Input) × (in_new.failures ≢ in_old.failures))
      ⊎ ((why ≡ failure.OutOfMemory) × (in_new.failures ≡ in_old.failures))

  -- the possible failures of reading a source with this name; reading a file doesn't touch standard input
  abbrev pub IsSourceUnread : Bor (List ℕ) → Failure → Type 0
  IsSourceUnread name why =
      ((name.now ≡ standard_input) × IsInputUnread why)
      ⊎ ((name.now ≢ standard_input) × (in_new ≡ in_old) × IsUnread name why)

-- the possible failures of reading a file of key events
abbrev pub IsKeysUnread : Option (Bor (List ℕ)) → Failure → Type 0
IsKeysUnread None why = ⊥
IsKeysUnread (Some name) why = IsUnreadWithin KEY_FILE_BYTES name why

-- the possible failures of taking an image as the source that `dis` prints for the image: the image is too
-- long, or memory ran out
abbrev pub IsImageRefused : Bor (List ℕ) → List ℕ → Failure → Type 0
IsImageRefused name image why =
    IsShort why ⊎ ((IMAGE_BYTES < length image) × (why ≡ failure.TooLong name IMAGE_BYTES))

-- The effects of a command on the source that some bytes produce: the bytes themselves or, for an
-- image, the source that `dis` prints for the image. `Quiet` holds if an image is refused.
abbrev pub AsSource : Bool → Bor (List ℕ) → (Quiet : Type 0) → (List ℕ → Outcome → Type 0) → List ℕ
    → Outcome → Type 0
AsSource false name Quiet Did bytes ended = Did bytes ended
AsSource true name Quiet Did image ended =
    ((length image ≤ IMAGE_BYTES) × Did (source_of_image image) ended)
    ⊎ (IsErrAnd ended (IsImageRefused name image) × Quiet)

-- The input that is read. `Unwritten` states that nothing was written.
module _ {R : Type 0} (remaining : R → Option (List ℕ)) (in_old in_new : Tally R)
    (Unwritten : Type 0) where
  -- The command ended with such a failure before a source was read, and nothing was written.
  abbrev pub Declined : (Failure → Type 0) → Outcome → Type 0
  Declined Why ended = IsErrAnd ended Why × (in_new ≡ in_old) × Unwritten

  -- the effects of a command on the bytes of a source
  abbrev pub FromSource : Bor (List ℕ) → (List ℕ → Outcome → Type 0) → Outcome → Type 0
  FromSource name Did ended =
      ((bytes : List ℕ) × GivesSource remaining in_old in_new name.now bytes × Did bytes ended)
      ⊎ (IsErrAnd ended (IsSourceUnread in_old in_new name) × Unwritten)

  -- the effects of a command on the source with this name, which is an image if the arguments say so
  abbrev pub FromGiven : Bool → Bor (List ℕ) → (List ℕ → Outcome → Type 0) → Outcome → Type 0
  FromGiven is_image name Did ended = FromSource name (AsSource is_image name Unwritten Did) ended

  -- the effects of a command on the bytes of a file of key events, or on no bytes if there is no file
  abbrev pub FromKeys : Option (Bor (List ℕ)) → (List ℕ → Outcome → Type 0) → Outcome → Type 0
  FromKeys None Did ended = Did [] ended
  FromKeys (Some name) Did ended =
      ((bytes : List ℕ) × (length bytes ≤ KEY_FILE_BYTES) × Did bytes ended)
      ⊎ Declined (IsUnreadWithin KEY_FILE_BYTES name) ended

  -- the effects of a command under the settings that the arguments ask for
  abbrev pub IfSettled : Option SessionSettings → (SessionSettings → Outcome → Type 0) → Outcome
      → Type 0
  IfSettled None Did ended = Declined IsUnsettled ended
  IfSettled (Some settings) Did ended = Did settings ended ⊎ Declined IsShort ended

  -- the effects of a command under the requested settings, with the key events and the source
  abbrev pub WithAsked : RunArguments → (SessionSettings → List ℕ → List ℕ → Outcome → Type 0) → Outcome
      → Type 0
  WithAsked arguments Did ended =
      IfSettled (settings_asked arguments.settings)
      (λ settings. FromKeys arguments.keys
      (λ keys. FromGiven arguments.is_image arguments.source (Did settings keys))) ended

-- a source is the source that some bytes produce
abbrev pub IsTaken : Bool → Bor (List ℕ) → (bytes source : List ℕ) → Type 0
IsTaken is_image name bytes source =
    AsSource is_image name (Unit {0}) (λ taken ended. taken ≡ source) bytes (Ok Done)

-- some bytes are an image that is refused
abbrev pub IsNotTaken : Bool → Bor (List ℕ) → (bytes : List ℕ) → Failure → Type 0
IsNotTaken is_image name bytes why =
    AsSource is_image name (Unit {0}) (λ taken ended. ⊥) bytes (Err why)

module _ {R : Type 0} (remaining : R → Option (List ℕ)) (in_old in_new : Tally R) where
  -- the source with this name was read
  abbrev pub IsGiven : Bool → Bor (List ℕ) → List ℕ → Type 0
  IsGiven is_image name source =
      FromGiven remaining in_old in_new (Unit {0}) is_image name (λ taken ended. taken ≡ source)
      (Ok Done)

  -- the source with this name couldn't be read
  abbrev pub IsNotGiven : Bool → Bor (List ℕ) → Failure → Type 0
  IsNotGiven is_image name why =
      FromGiven remaining in_old in_new (Unit {0}) is_image name (λ taken ended. ⊥) (Err why)

  -- the input that was read is the input that the arguments of a run ask for
  abbrev pub IsAsked : RunArguments → AskedRun → Type 0
  IsAsked arguments asked =
      WithAsked remaining in_old in_new (Unit {0}) arguments (λ settings keys source ended.
      (settings ≡ asked.settings) × (keys ≡ asked.keys.bytes.items)
      × (source ≡ asked.source.items)) (Ok Done)
      × (settings_asked arguments.settings ≡ Some asked.settings)

  -- the input that the arguments of a run ask for couldn't be read
  abbrev pub IsUnasked : RunArguments → Failure → Type 0
  IsUnasked arguments why =
      WithAsked remaining in_old in_new (Unit {0}) arguments (λ settings keys source ended. ⊥) (Err why)
