use Rattle.std.proofs.Common.{◌≡◌, length}
use Rattle.chip_session.proofs.WriteLemmas.{Written}
use Rattle.chip_session.proofs.server.write_whole.Given as goal

abbrev pub invariant-loop-rest : goal.invariant-loop-rest
invariant-loop-rest g l = record {
  written : Written (g.W.Write.contents l.fn.writer.inner) (g.W.Write.contents l.writer.inner) l.bytes l.rest;
  failures : l.writer.failures ≡ l.fn.writer.failures;
}

abbrev pub decreases-loop-rest : goal.decreases-loop-rest
decreases-loop-rest g l = length l.rest
