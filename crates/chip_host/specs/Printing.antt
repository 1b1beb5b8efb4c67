-- The text that a command prints on standard output, and its ending (chosen by this project).
--     Printed, printed, printed_by   a text and an ending, and those of an answer
--     unopened_text, IsUnopened, printed_faults, ending_with    a source that doesn't open, its faults, and how
--                                    a command on it ends
--     Prints, Streams, PrintsSuch, IfOpens, Refuses    which part of an output was printed
--     Fails                          nothing was printed
use Rattle.std.specs.Prelude.{◌≡◌, ◌⊎◌, ℕ, List, [], codes, Option, Some, None, Result, Ok, Err, IsErrAnd}
use Rattle.std.specs.Io.KnownBytes.{Appends}
use Rattle.chip_asm.specs.Lines.{open_fault}
use Rattle.chip_asm.specs.Program.{faults_of}
use Rattle.chip_asm.specs.declared.refusal.OpenError.{OpenError}
use Rattle.chip_asm.specs.declared.refusal.OpenError.TheVariants as unopened
use Rattle.chip_session.specs.Answers.{faults_text}
use Rattle.chip_session.specs.Serving.{BeginsWith}
use Rattle.chip_session.specs.Tally.{Tally}
use Rattle.chip_session.specs.Writing.{Breaks, Writes}
use Rattle.chip_host.specs.declared.ending.Ending.{Ending}
use Rattle.chip_host.specs.declared.ending.Ending.TheVariants.{Done, Faulty}
use Rattle.chip_host.specs.declared.ending.Failure.{Failure}
use Rattle.chip_host.specs.declared.ending.Failure.TheVariants as failure
use Rattle.chip_host.specs.Endings.{Outcome}
use Rattle.chip_host.specs.declared.printing.Answer.{Answer}

-- the text that a command prints on standard output, and how the command ends after it
pub record Printed : Type 0 where
  pub text : List ℕ
  pub ending : Ending

abbrev pub printed : List ℕ → Ending → Printed
printed text ending = record { text = text; ending = ending }

-- the output for an answer
abbrev pub printed_by : Answer → Printed
printed_by answer = printed answer.text.items answer.ending

-- the reason why a source doesn't open, as the program prints it; nothing if memory ran out
abbrev pub unopened_text : OpenError → List ℕ
unopened_text (unopened.LineTooLong number) = codes "no O1\n"
unopened_text unopened.TooManyLines = codes "no O2\n"
unopened_text unopened.OutOfMemory = []

-- the reason why a source doesn't open: its fault, or out of memory
abbrev pub IsUnopened : (source : List ℕ) → OpenError → Type 0
IsUnopened source fault = (fault ≡ unopened.OutOfMemory) ⊎ (open_fault source ≡ Some fault)

abbrev pub printed_faults : List (List ℕ) → Printed
printed_faults lines = printed (faults_text (faults_of lines)) Faulty

-- the ending of a command on a source: faulty if there is no image
abbrev pub ending_with : Option (List ℕ) → Ending
ending_with (Some image) = Done
ending_with None = Faulty

module _ {W : Type 0} (contents : W → Option (List ℕ)) (old new : Tally W) where
  -- The effects of a command that prints an output: the whole text was printed, or a prefix if a write
  -- failed, or nothing if memory ran out.
  abbrev pub Prints : Printed → Result Ending Failure → Type 0
  Prints wanted (Ok ending) = (ending ≡ wanted.ending) × Writes contents old new wanted.text
  Prints wanted (Err failure.Output) = Breaks contents old new wanted.text
  Prints wanted (Err failure.OutOfMemory) = new ≡ old
  Prints wanted (Err _) = ⊥

  -- some prefix of this text was printed, and nothing else, and no write failed
  pub record WritesFront (text : List ℕ) : Type 0 where
    pub front : List ℕ
    pub begins : BeginsWith text front
    pub appended : Appends (contents old.inner) (contents new.inner) front
    pub no_failure : new.failures ≡ old.failures

  -- The effects of a command that prints an output in parts: the whole text was printed, or a prefix if
  -- a write failed or memory ran out.
  abbrev pub Streams : Printed → Result Ending Failure → Type 0
  Streams wanted (Ok ending) = (ending ≡ wanted.ending) × Writes contents old new wanted.text
  Streams wanted (Err failure.Output) = Breaks contents old new wanted.text
  Streams wanted (Err failure.OutOfMemory) = WritesFront wanted.text
  Streams wanted (Err _) = ⊥

  -- An output that passes a test was printed, or memory ran out before anything was printed.
  abbrev pub PrintsSuch : (Printed → Type 0) → Result Ending Failure → Type 0
  PrintsSuch P result =
      ((wanted : Printed) × P wanted × Prints wanted result)
      ⊎ ((result ≡ Err failure.OutOfMemory) × (new ≡ old))

  -- the effects of a command on a source that opens; for any other source, the command prints the reason
  abbrev pub IfOpens : Option OpenError → (Did : Result Ending Failure → Type 0)
      → Result Ending Failure → Type 0
  IfOpens None Did result = Did result
  IfOpens (Some fault) Did result = Prints (printed (unopened_text fault) Faulty) result

  -- a source that doesn't open is refused
  abbrev pub Refuses : OpenError → Result Ending Failure → Type 0
  Refuses unopened.OutOfMemory result = (result ≡ Err failure.OutOfMemory) × (new ≡ old)
  Refuses fault result = Prints (printed (unopened_text fault) Faulty) result

  -- the command ended with a failure of this kind, and nothing was written
  abbrev pub Fails : (Failure → Type 0) → Outcome → Type 0
  Fails Why ended = IsErrAnd ended Why × (new ≡ old)
