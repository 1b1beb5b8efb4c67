use Rattle.std.proofs.lemmas.List.{take_rest}
use Rattle.std.proofs.lemmas.Grind.{common_steps}
use Rattle.std.proofs.Common.{arith}
use Rattle.chip_session.proofs.WriteLemmas.{written_more}
use Rattle.chip_session.proofs.server.write_whole.Goals as goal

pub loop-rest-preserved : goal.loop-rest-preserved
loop-rest-preserved g c = record {
  written = rw take_rest (written_more _ _ _ _ _ _ c.loop-rest.invariant.written c.in-Ok.ensures.bytes);
  failures = grind (arith, common_steps, c.in-Ok.ensures.failures);
}
