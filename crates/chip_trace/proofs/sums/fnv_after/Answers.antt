use Rattle.std.proofs.lemmas.List.Sums.{fold_more}
use Rattle.chip_trace.specs.Sums.{fnv_step}
use Rattle.chip_trace.proofs.sums.fnv_after.Goals as goal

pub loop-byte-preserved : goal.loop-byte-preserved
loop-byte-preserved c =
    let more = fold_more fnv_step c.args.sum c.args.bytes.now c.loop-byte.byte-index 0 c.loop-byte-test.true in
    cc
