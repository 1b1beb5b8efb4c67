use Rattle.std.proofs.Common.{◌∙◌, ◌++◌, [], ◌∷◌, ap}
use Rattle.chip_check.specs.Quoted.{shown_byte}
use Rattle.chip_check.proofs.Pieces.{one_mapped}
use Rattle.chip_check.proofs.quoted.push_run.Goals as goal

pub loop-byte-preserved : goal.loop-byte-preserved
loop-byte-preserved c =
    one_mapped (shown_byte c.args.is_text) c.args.shown.now.items c.loop-byte.shown.items c.args.run.now c.loop-byte.byte-index _ _
    c.loop-byte-test.true c.loop-byte.invariant
    (c.in_ok-push.ensures.items ∙ ap (λ byte. c.loop-byte.shown.items ++ byte ∷ []) c.shown_byte.ensures)
