use Rattle.std.proofs.Common.{◌≡◌, length}
use Rattle.chip_session.specs.Answers.{machine_of}
use Rattle.chip_bench.specs.Tracing.{trace_of}
use Rattle.chip_trace.specs.Lines.{remaining}
use Rattle.chip_bench.proofs.TraceLemmas.{Streamed}
use Rattle.chip_bench.proofs.tracing.stream.Given as goal

-- the written bytes, the text and the remaining lines make up the whole trace
abbrev pub invariant-loop-is_more : goal.invariant-loop-is_more
invariant-loop-is_more g l = record {
  session : l.bench.session ≡ l.fn.bench.session;
  streamed : Streamed g.O.Write.contents l.fn.output l.output (trace_of l.fn.bench.session l.fn.shown) l.text.items (remaining (machine_of l.fn.bench.session) l.trace);
}

abbrev pub decreases-loop-is_more : goal.decreases-loop-is_more
decreases-loop-is_more g l = length (remaining (machine_of l.bench.session) l.trace)
