use Rattle.chip_explore.specs.inner.Cover.{view_of}
use Rattle.chip_explore.proofs.Covered.{all_covered}
use Rattle.chip_explore.proofs.question.covered_by.Goals as goal

pub returns : goal.returns
returns c =
    let law = c.alike_steps.ensures in
    let m = c.args.members.now in
    let searched = c.requires.searched in
    let told =
    all_covered law.alike law.draws c.args.setting.now (view_of m) c.covered.result c.covered.ensures.below
    (λ j kept early. searched.holds.taken j (c.covered.ensures.closed j kept early))
    m.start searched.proper c.requires.fresh searched.begun c.covered.ensures.end in
    record { below = c.covered.ensures.below; covers = told.0; any_speed = told.1 }
