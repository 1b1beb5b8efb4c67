-- The input that was read, and the failures that prevented it, for the private contracts behind the
-- commands (chosen by this project).
use Rattle.std.specs.Prelude.{◌≡◌, ◌⊎◌, ℕ, List, Option, Some, None, Ok, Err}
use Rattle.chip_asm.specs.Lines.{open_fault}
use Rattle.chip_session.specs.KeyFile.{key_fault, session_under}
use Rattle.chip_session.specs.Session.{Session, session_of}
use Rattle.chip_session.specs.Settings.{SessionSettings}
use Rattle.chip_host.specs.Endings.{IsShort, Outcome, failure_status}
use Rattle.chip_host.specs.declared.ending.Failure.{Failure}
use Rattle.chip_host.specs.declared.ending.Failure.TheVariants as failure

-- invalid arguments, or a lack of memory
abbrev pub IsUsage : Outcome → Type 0
IsUsage (Ok ending) = ⊥
IsUsage (Err failure) = (failure_status failure ≡ 2) ⊎ (failure_status failure ≡ 4)

-- the session of a source with these settings, after all key events of a file were added
pub record IsSessionOf (settings : SessionSettings) (source keys : List ℕ) (session : Session)
    : Type 0 where
  pub opens : open_fault source ≡ None
  pub made : key_fault (session_of settings source) keys ≡ None
  pub is : session ≡ session_under (session_of settings source) keys

-- the failure for the first refused line of a key file
abbrev pub IsRefused : Option (ℕ × List ℕ) → Failure → Type 0
IsRefused fault (failure.BadKeys name number code) = fault ≡ Some (number, code.0.now)
IsRefused fault why = ⊥

-- the failures that prevent adding the key events of a file
abbrev pub IsUnmade : SessionSettings → (source keys : List ℕ) → Failure → Type 0
IsUnmade settings source keys why =
    IsShort why
    ⊎ ((open_fault source ≡ None) × IsRefused (key_fault (session_of settings source) keys) why)
