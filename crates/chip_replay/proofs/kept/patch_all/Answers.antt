use Rattle.std.proofs.Common.{sym, ap, ◌∙◌, set}
use Rattle.std.proofs.lemmas.List.Edits.{map_over_more}
use Rattle.chip_replay.specs.Image.{patched}
use Rattle.chip_replay.proofs.kept.patch_all.Goals as goal

pub loop-state-preserved : goal.loop-state-preserved
loop-state-preserved g c =
    let f = patched g.M.Traced.memory g.M.Traced.with_memory c.args.old.now c.args.new.now in
    ap (set c.loop-state.states c.loop-state.state-index) (c.patch.ensures ∙ ap f (sym c.state-item.is))
    ∙ map_over_more f c.args.states.now c.loop-state.states c.loop-state.state-index c.state-item.result c.loop-state-test.true c.loop-state.invariant c.state-item.is
