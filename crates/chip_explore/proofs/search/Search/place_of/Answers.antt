use Rattle.std.proofs.Common.{rules}
use Rattle.chip_explore.specs.inner.Cover.{view_of}
use Rattle.chip_explore.proofs.Growth.{at_erased}
use Rattle.chip_explore.proofs.search.Search.place_of.Goals as goal

pub returns-then-branch-clause-place : goal.returns-then-branch-clause-place
returns-then-branch-clause-place c =
    at_erased c.args.setting.now (view_of c.args.self.now.members) c.in-Some.place c.args.self.now.runner.forgotten c.parts_to_forget-parts.result c.args.self.now.runner.machine
    c.erase.new.self.machine c.args.step (c.is_within.ensures (search rules)) c.erase.ensures.alike (c.in_ok-is_at.ensures (search rules))
