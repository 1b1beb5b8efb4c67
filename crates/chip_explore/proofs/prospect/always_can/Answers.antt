use Rattle.std.proofs.lemmas.Result.{IfOk-weaker}
use Rattle.chip_explore.proofs.Reached.{always}
use Rattle.chip_explore.proofs.prospect.always_can.Goals as goal

pub returns-clause-always : goal.returns-clause-always
returns-clause-always c =
    let law = c.alike_steps.ensures in
    let m = c.args.search.now.members in
    IfOk-weaker c.are_ranked.result _ _
    (λ answer ranked yes.
    always law.alike law.draws c.args.setting.now m c.deref.result.now c.requires.fresh c.requires.searched c.requires.whole (ranked yes))
    c.are_ranked.ensures.ranked
