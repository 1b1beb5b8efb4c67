use Rattle.std.proofs.Common.{ℕ, ◌<◌, length, if◌then◌else◌, nat_lt, ap, ◌∙◌, set, get_or, arith}
use Rattle.std.proofs.lemmas.List.{get_or_default}
use Rattle.std.proofs.lemmas.List.Edits.{map_over_more}
use Rattle.chip_replay.specs.Limits.{never}
use Rattle.chip_replay.proofs.kept.cut_each.Goals as goal

pub loop-first-preserved : goal.loop-first-preserved
loop-first-preserved c =
    let f = λ (first : ℕ). if nat_lt first c.args.reach then first else never in
    let items = c.loop-first.first_touch in
    let i = c.loop-first.first-index in
    let inside : i < length items = omega (arith, c.loop-first.auto.first_touch) in
    ap (set items i) c.if_before.ensures
    ∙ map_over_more f c.args.first_touch.now items i (get_or items i 0) c.loop-first-test.true c.loop-first.invariant (get_or_default items i 0 (get_or items i 0) inside)
