use Rattle.std.proofs.Common.{rules, sym, ◌∙◌, arith}
use Rattle.chip_explore.proofs.Growth.{all_read, goes_up_to}
use Rattle.chip_explore.proofs.search.Search.take_up_values.Goals as goal

pub close-requires-clause-taken : goal.close-requires-clause-taken
close-requires-clause-taken c =
    all_read c.args.setting.now c.args.self.now.members c.follow_values.new.self.members c.in_ok-follow_values.ensures.grows.goes
    c.args.place c.args.step c.requires.there.kept c.args.read c.requires.reads
    (c.in_ok-follow_values.ensures.leads (search rules))
    (sym c.step.ensures ∙ c.if-step.true)

pub returns-then-step : goal.returns-then-step
returns-then-step c =
    goes_up_to c.args.setting.now c.args.self.now.members c.follow_values.new.self.members c.close.new.self _
    c.in_ok-follow_values.ensures.grows.goes c.close.ensures.goes (omega arith)
