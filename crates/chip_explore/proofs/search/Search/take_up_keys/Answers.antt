use Rattle.std.proofs.Common.{rules, sym, ◌∙◌, arith}
use Rattle.chip_explore.proofs.Growth.{adds_more, all_taken, goes_up_to}
use Rattle.chip_explore.proofs.search.Search.take_up_keys.Goals as goal

pub close-requires-clause-taken : goal.close-requires-clause-taken
close-requires-clause-taken c =
    all_taken c.args.setting.now c.args.self.now.members c.follow.new.self.members c.follow_each.new.self.members c.in_ok-follow.ensures.adds.goes c.in_ok-follow_each.ensures.adds.goes
    c.args.place c.args.step c.args.choices c.requires.there.kept c.requires.choices
    (c.in_ok-follow.ensures.leads (search rules)) (c.in_ok-follow_each.ensures.leads (search rules))
    (sym c.step.ensures ∙ c.if-step.true)

pub returns-then-step : goal.returns-then-step
returns-then-step c =
    let more =
    adds_more c.args.setting.now c.args.self.now.members c.follow.new.self.members c.follow_each.new.self.members 1 16
    c.in_ok-follow.ensures.adds c.in_ok-follow_each.ensures.adds in
    goes_up_to c.args.setting.now c.args.self.now.members c.follow_each.new.self.members c.close.new.self _ more.goes c.close.ensures.goes (omega arith)

pub returns-else-step : goal.returns-else-step
returns-else-step c =
    adds_more c.args.setting.now c.args.self.now.members c.follow.new.self.members c.follow_each.new.self.members 1 16
    c.in_ok-follow.ensures.adds c.in_ok-follow_each.ensures.adds

pub returns-then-not-branch-2 : goal.returns-then-not-branch-2
returns-then-not-branch-2 c =
    adds_more c.args.setting.now c.args.self.now.members c.follow.new.self.members c.follow_each.new.self.members 1 16
    c.in_ok-follow.ensures.adds c.in_ok-follow_each.ensures.adds
