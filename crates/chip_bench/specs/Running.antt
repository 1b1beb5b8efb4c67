-- The input, the output and the status of a run of the program (chosen by this project).
use Rattle.std.specs.Prelude.{◌≡◌, ◌≢◌, ◌⊎◌, ℕ, Bool, List, [], Option, Some, Result, Ok, Err, if◌then◌else◌}
use Rattle.chip_asm.specs.Lines.{open_fault}
use Rattle.chip_asm.specs.declared.refusal.OpenError.TheVariants.{OutOfMemory as unopened_memory}
use Rattle.clap.specs.Kinds.{Kinds, IsAmong}
use Rattle.clap.specs.declared.error.kind.ErrorKind.TheVariants as kind
use Rattle.std.specs.Io.KnownBytes.{Keeps}
use Rattle.std.specs.declared.io.ErrorKind.{ErrorKind as IoErrorKind}
use Rattle.std.specs.declared.io.ErrorKind.TheVariants as io_kind
use Rattle.chip_session.specs.Settings.{SessionSettings, default_settings}
use Rattle.chip_session.specs.Session.{session_of}
use Rattle.chip_session.specs.Serving.{Served, Exchanges, Opens, reader_failures, writer_failures}
use Rattle.chip_host.specs.Printing.{Refuses}
use Rattle.chip_session.specs.Tally.{Tally, failures_after_flush}
use Rattle.chip_host.specs.declared.ending.Ending.{Ending}
use Rattle.chip_host.specs.declared.ending.Ending.TheVariants.{Done}
use Rattle.chip_host.specs.declared.ending.Failure.{Failure}
use Rattle.chip_host.specs.declared.ending.Failure.TheVariants as failure
use Rattle.chip_session.specs.declared.server.ServeError.{ServeError}
use Rattle.chip_session.specs.declared.server.ServeError.TheVariants as fault
use Rattle.chip_host.specs.Endings.{ending_status, failure_status}

-- the status for an ending or a failure, and for the final flush: a failed flush changes the status
-- only if nothing failed before
abbrev pub status_of : Result Ending Failure → Bool → ℕ
status_of (Ok ending) flushed = if flushed then ending_status ending else 3
status_of (Err failure) flushed = failure_status failure

-- the ending of the program after a session on a source that opens, before the final flush
abbrev pub result_after : Result Unit ServeError → Result Ending Failure
result_after (Ok _) = Ok Done
result_after (Err fault.ReaderFailed) = Err failure.Input
result_after (Err fault.WriterFailed) = Err failure.Output
result_after (Err fault.TooMuchInput) = Err failure.TooMuchInput
result_after (Err _) = Err failure.OutOfMemory

module _ {R W : Type 0} (remaining : R → Option (List ℕ)) (contents : W → Option (List ℕ))
    (settings : SessionSettings) (source : List ℕ)
    (in_old in_new : Tally R) (out_old out_new : Tally W) where
  -- A session that ended with this result. It read and wrote its transcript, as far as `Served` states for that
  -- result. The failure count of the reader or writer rises by one exactly if the result names that failure.
  pub record Converses (served : Result Unit ServeError) : Type 0 where
    pub transcript : Exchanges (remaining in_old.inner) (remaining in_new.inner)
        (contents out_old.inner) (contents out_new.inner)
        (Served served (session_of settings source))
    pub opens : Opens (open_fault source) served
    pub reader_failed : in_new.failures ≡ reader_failures served in_old.failures
    pub writer_failed : out_new.failures ≡ writer_failures served out_old.failures

  -- The effects of a script on a source, if the session ended with this result. If the source
  -- doesn't open, or memory ran out during the opening, nothing was read and the source is refused.
  abbrev pub AnswersAs : Result Ending Failure → Result Unit ServeError → Type 0
  AnswersAs result (Err (fault.Source e)) =
      ((e ≡ unopened_memory) ⊎ (open_fault source ≡ Some e))
      × (in_new ≡ in_old) × Refuses contents out_old out_new e result
  AnswersAs result served = (result ≡ result_after served) × Converses served

  abbrev pub AnswersScript : Result Ending Failure → Type 0
  AnswersScript result = (served : Result Unit ServeError) × AnswersAs result served

-- The end of the program: `Did` states the effects before the output was flushed, and `flushed`
-- whether the flush succeeded. A failed flush is counted.
pub record Ends {W : Type 0} (contents : W → Option (List ℕ)) (Did : Tally W → Result Ending Failure → Type 0)
    (out_new : Tally W) (status : ℕ) : Type 0 where
  pub written : Tally W
  pub ended : Result Ending Failure
  pub flushed : Bool
  pub did : Did written ended
  pub kept : Keeps (contents written.inner) (contents out_new.inner)
  pub failures : out_new.failures ≡ failures_after_flush flushed written.failures
  pub status_is : status ≡ status_of ended flushed

-- A run without arguments: a session on the empty source, which opens unless memory runs out.
abbrev pub RunsSession : {R W : Type 0} → (remaining : R → Option (List ℕ))
    → (contents : W → Option (List ℕ)) → (in_old in_new : Tally R) (out_old out_new : Tally W)
    → (status : ℕ) → Type 0
RunsSession remaining contents in_old in_new out_old =
    Ends contents (AnswersScript remaining contents default_settings [] in_old in_new out_old)

-- the status if the system can't return the program's arguments as text; after any error, it is 4
-- if memory runs out during the report
abbrev pub IsWithoutArguments : IoErrorKind → ℕ → Type 0
IsWithoutArguments io_kind.OutOfMemory status = status ≡ 4
IsWithoutArguments _ status = (status ≡ 2) ⊎ (status ≡ 4)

-- invalid arguments, as opposed to valid ones and to a request for help or the version
abbrev pub AreFaulty : Kinds → Type 0
AreFaulty kinds =
    (kinds ≢ []) × (IsAmong kind.DisplayHelp kinds → ⊥) × (IsAmong kind.DisplayVersion kinds → ⊥)
