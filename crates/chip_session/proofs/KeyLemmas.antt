-- The key events of a file, line by line.
use Rattle.std.proofs.Common.{◌≡◌, ◌==◌, ℕ, ◌+◌, List, [], ◌∷◌, length, map, true, Option, Some, None, ap, arith, eqb-true, refl, sym, ◌∙◌}
use Rattle.std.specs.Str.Lines.{lines}
use Rattle.chip_files.specs.KeyLines.{key_command, key_commands}
use Rattle.chip_session.specs.KeyFile.{first_refusal, key_fault, refusal_to, refused_or_later, session_under}
use Rattle.chip_session.specs.Session.{Session, Text}
use Rattle.chip_session.specs.Transcript.{after, session_after}

module _ (s : Session) (n : ℕ) (bytes line rest : List ℕ) (first : lines bytes ≡ line ∷ lines rest) where
  -- a first line that is refused
  pub refused_here : (code : Text) → refusal_to s (key_command line) ≡ Some code → first_refusal s n (key_commands bytes) ≡ Some (n, code)
  refused_here code e =
      ap (λ ls. first_refusal s n (map key_command ls)) first
      ∙ ap (λ r. refused_or_later r n (first_refusal (after s (key_command line)) (n + 1) (key_commands rest))) e

  -- a first line that isn't refused
  pub refused_later : refusal_to s (key_command line) ≡ None →
      first_refusal s n (key_commands bytes) ≡ first_refusal (after s (key_command line)) (n + 1) (key_commands rest)
  refused_later e =
      ap (λ ls. first_refusal s n (map key_command ls)) first
      ∙ ap (λ r. refused_or_later r n (first_refusal (after s (key_command line)) (n + 1) (key_commands rest))) e

  pub session_later : session_after s (key_commands bytes) ≡ session_after (after s (key_command line)) (key_commands rest)
  session_later = ap (λ ls. session_after s (map key_command ls)) first

-- the case in which no lines are left
pub no_lines : (bytes : List ℕ) → (length bytes == 0) ≡ true → lines bytes ≡ []
no_lines [] e = refl
no_lines (x ∷ xs) e = absurd (let n : length (x ∷ xs) ≡ 0 = eqb-true (length (x ∷ xs)) 0 e in omega arith)

pub refused_none : (s : Session) (n : ℕ) (bytes : List ℕ) → lines bytes ≡ [] → first_refusal s n (key_commands bytes) ≡ None
refused_none s n bytes e = ap (λ ls. first_refusal s n (map key_command ls)) e

pub session_same : (s : Session) (bytes : List ℕ) → lines bytes ≡ [] → session_after s (key_commands bytes) ≡ s
session_same s bytes e = ap (λ ls. session_after s (map key_command ls)) e

pub fault_is : (s : Session) (file : List ℕ) (fault : Option (ℕ × Text)) → first_refusal s 1 (key_commands file) ≡ fault → key_fault s file ≡ fault
unfolding key_fault
fault_is s file fault e = e

pub session_is : (s t : Session) (file : List ℕ) → session_after s (key_commands file) ≡ t → t ≡ session_under s file
unfolding session_under
session_is s t file e = sym e
