use Rattle.std.proofs.Common.{arith}
use Rattle.chip_trace.specs.inner.Usual.{first_columns}
use Rattle.chip_trace.proofs.Usual.{begins_so, same_front}
use Rattle.chip_trace.proofs.columns.begins_as_usual.Goals as goal

pub loop-place-preserved : goal.loop-place-preserved
loop-place-preserved c =
    same_front c.args.columns.now first_columns c.loop-place.place c.index-columns-place.result (omega arith) c.index-columns-place.is
    (c.is_usual_at.ensures c.if-not-is_usual_at.false) c.loop-place.invariant

pub returns : goal.returns
returns c = λ _. begins_so c.args.columns.now c.loop-place.place (omega arith) c.loop-place.invariant
