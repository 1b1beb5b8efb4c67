-- A session for which memory ran out before the session began.
use Rattle.std.proofs.Common.{◌≡◌, ℕ, List, [], Option, Some, None, Err, refl, sym, ap}
use Rattle.std.proofs.lemmas.List.{append-nil}
use Rattle.chip_asm.specs.Lines.{open_fault}
use Rattle.chip_session.specs.Settings.{SessionSettings}
use Rattle.chip_session.specs.Serving.{Exchanges}
use Rattle.chip_bench.specs.Running.{Converses}
use Rattle.chip_session.specs.Tally.{Tally}
use Rattle.chip_session.specs.declared.server.ServeError.TheVariants as fault

-- nothing was read or written
pub exchanges_none : (had held : Option (List ℕ)) (P : List ℕ → List ℕ → List ℕ → Type 0) → ((all : List ℕ) → P [] all []) → Exchanges had had held held P
exchanges_none None held P f = tt
exchanges_none (Some all) None P f = tt
exchanges_none (Some all) (Some before) P f =
    record { given = []; rest = all; written = []; read = refl; left_is = refl; wrote = ap Some (sym (append-nil before)); outcome = f all }

empty_opens : open_fault [] ≡ None
empty_opens = refl

module _ {R W : Type 0} (remaining : R → Option (List ℕ)) (contents : W → Option (List ℕ)) where
  -- nothing was read or written, because memory ran out
  pub stays_put : (settings : SessionSettings) (input : Tally R) (output : Tally W) →
      Converses remaining contents settings [] input input output output (Err fault.OutOfMemory)
  stays_put settings input output = record {
    transcript = exchanges_none _ _ _ (λ all. (0, refl));
    opens = empty_opens;
    reader_failed = refl;
    writer_failed = refl;
  }
