use Rattle.std.proofs.Common.{◌≤◌, length, rules}
use Rattle.chip_lang.specs.declared.limits.TheConstants.{IMAGE_BYTES}
use Rattle.chip_session.proofs.ImageLemmas.{replays_next, follows_same}
use Rattle.chip_session.proofs.image_run.ImageRun.follow.Goals as goal

pub invariant_of-self : goal.invariant_of-self
invariant_of-self c =
    let fits : length c.in-Some.image.now ≤ IMAGE_BYTES = search rules in
    let law = c.image_at_the_start.ensures in
    let changed = c.image_changed_within.ensures in
    let next = replays_next c.self.inside.settings c.self.inside.last_image.items c.in-Some.image.now c.self.inside.replay c.image_changed_within.new.self c.self.invariant.replays law.from_512 law.below fits changed.start changed.rate changed.spacing in
    search rules

pub returns-in_default-changed_places-clause-follows : goal.returns-in_default-changed_places-clause-follows
returns-in_default-changed_places-clause-follows c = follows_same _ c.args.self.now (search rules)
