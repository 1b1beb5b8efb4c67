-- The bytes that a call of `serve` reads and writes, for each way it can end (chosen by this
-- project).
use Rattle.std.specs.Prelude.{◌≡◌, ◌⊎◌, ℕ, ◌<◌, ◌≤◌, List, [], ◌++◌, length, take, Option, Some, None, IfSome, Result, Ok, Err}
use Rattle.chip_session.specs.declared.limits.TheConstants.{SCRIPT_BYTES, SCRIPT_LINES}
use Rattle.chip_asm.specs.Lines.{lines_of}
use Rattle.chip_session.specs.Lines.{complete_lines}
use Rattle.chip_session.specs.Session.{Session}
use Rattle.chip_session.specs.Transcript.{transcript_of}
use Rattle.chip_asm.specs.declared.refusal.OpenError.{OpenError}
use Rattle.chip_asm.specs.declared.refusal.OpenError.TheVariants.{OutOfMemory as memory}
use Rattle.chip_session.specs.declared.server.ServeError.{ServeError}
use Rattle.chip_session.specs.declared.server.ServeError.TheVariants as fault
use Rattle.chip_lang.specs.Meter.{one_more}

-- the script exceeds neither limit, on bytes or on lines
pub record WithinBounds (script : List ℕ) : Type 0 where
  pub bytes : length script ≤ SCRIPT_BYTES
  pub line_count : length (lines_of script) ≤ SCRIPT_LINES

-- the script exceeds a limit
abbrev pub PassesBound : List ℕ → Type 0
PassesBound script = (SCRIPT_BYTES < length script) ⊎ (SCRIPT_LINES < length (lines_of script))

-- the complete lines among the first `SCRIPT_BYTES` bytes, at most `SCRIPT_LINES` of them
abbrev pub lines_in_bounds : List ℕ → List (List ℕ)
lines_in_bounds script = take SCRIPT_LINES (complete_lines (take SCRIPT_BYTES script))

-- `text` begins with `front`
abbrev pub BeginsWith : List ℕ → List ℕ → Type 0
BeginsWith text front = (back : List ℕ) × (text ≡ front ++ back)

-- The bytes written after `given` was read from the reader and `rest` remains.
abbrev pub Served : Result Unit ServeError → Session → List ℕ → List ℕ → List ℕ → Type 0
-- the script ended within the limits: the whole transcript was written
Served (Ok _) start given rest written =
    (rest ≡ []) × WithinBounds given × (written ≡ transcript_of start (lines_of given))
-- the source doesn't open: nothing was read or written
Served (Err (fault.Source e)) start given rest written = (given ≡ []) × (written ≡ [])
-- the reader failed: the answers to all complete lines read so far were written
Served (Err fault.ReaderFailed) start given rest written =
    WithinBounds given × (written ≡ transcript_of start (complete_lines given))
-- the writer failed: a prefix of the transcript was written
Served (Err fault.WriterFailed) start given rest written =
    BeginsWith (transcript_of start (lines_of (given ++ rest))) written
-- memory ran out: the answers to the first `n` complete lines were written
Served (Err fault.OutOfMemory) start given rest written =
    (n : ℕ) × (written ≡ transcript_of start (take n (complete_lines given)))
-- the script exceeds a limit: the answers to the complete lines within the limits were written
Served (Err fault.TooMuchInput) start given rest written =
    PassesBound given × (written ≡ transcript_of start (lines_in_bounds given))

-- A call leaves `left` of the reader's bytes `all`, and turns the writer's contents from `before`
-- into `holds`. P relates the bytes read, the bytes left to read and the bytes written.
pub record Exchanged (all : List ℕ) (left : Option (List ℕ)) (before : List ℕ)
    (holds : Option (List ℕ)) (P : List ℕ → List ℕ → List ℕ → Type 0) : Type 0 where
  pub given : List ℕ
  pub rest : List ℕ
  pub written : List ℕ
  pub read : all ≡ given ++ rest
  pub left_is : left ≡ Some rest
  pub wrote : holds ≡ Some (before ++ written)
  pub outcome : P given rest written

-- The bytes read and written, for a reader and a writer whose contents are known.
abbrev pub Exchanges : Option (List ℕ) → Option (List ℕ) → Option (List ℕ) → Option (List ℕ)
    → (List ℕ → List ℕ → List ℕ → Type 0) → Type 0
Exchanges had left held holds P =
    IfSome had (λ all. IfSome held (λ before. Exchanged all left before holds P))

-- the failure counts of the reader and of the writer after a call with this result
abbrev pub reader_failures : Result Unit ServeError → ℕ → ℕ
reader_failures (Err fault.ReaderFailed) failures = one_more failures
reader_failures _ failures = failures

abbrev pub writer_failures : Result Unit ServeError → ℕ → ℕ
writer_failures (Err fault.WriterFailed) failures = one_more failures
writer_failures _ failures = failures

-- a source error is the fault of the source, or a lack of memory; after any other result, the
-- source opens
abbrev pub Opens : Option OpenError → Result Unit ServeError → Type 0
Opens found (Err (fault.Source e)) = (e ≡ memory) ⊎ (found ≡ Some e)
Opens found _ = found ≡ None

-- these facts hold if the source doesn't open
abbrev pub UnlessOpened : Result Unit ServeError → Type 0 → Type 0
UnlessOpened (Err (fault.Source e)) P = P
UnlessOpened _ P = Unit {0}
