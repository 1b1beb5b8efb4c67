use Rattle.std.proofs.Common.{◌≡◌, ◌-◌, ◌≤◌, List, ℕ, Some, length}
use Rattle.chip_session.specs.declared.limits.TheConstants.{SCRIPT_BYTES}
use Rattle.chip_session.specs.declared.server.TheConstants.{PIECE_LEN}
use Rattle.chip_session.proofs.ServeLemmas.{Underway}
use Rattle.chip_session.proofs.server.converse.Given as goal

-- the bytes written are the transcript of the complete lines read so far
abbrev pub invariant-pieces : goal.invariant-pieces
invariant-pieces g l = record {
  told : (all before : List ℕ) → g.R.Read.remaining l.fn.reader.inner ≡ Some all → g.W.Write.contents l.fn.writer.inner ≡ Some before →
      Underway all (g.R.Read.remaining l.reader.inner) l.fn.conversation.bench.session before l.conversation (g.W.Write.contents l.writer.inner);
  bound : l.conversation.taken ≤ SCRIPT_BYTES;
  reader_same : l.reader.failures ≡ l.fn.reader.failures;
  writer_same : l.writer.failures ≡ l.fn.writer.failures;
  room : length l.piece ≡ PIECE_LEN;
}

-- the number of bytes that may still be taken
abbrev pub decreases-pieces : goal.decreases-pieces
decreases-pieces g l = SCRIPT_BYTES - l.conversation.taken
