use Rattle.chip_explore.specs.inner.Cover.{view_of}
use Rattle.chip_explore.proofs.Growth.{still_safe}
use Rattle.chip_explore.proofs.searching.search_all.Goals as goal

pub returns-clause-begun : goal.returns-clause-begun
returns-clause-begun g c =
    still_safe c.args.setting.now (view_of c.run_on.new.self.members) (view_of c.run.new.self.members) c.run.ensures.goes.extends _ _ c.args.from c.in_ok-run_on.ensures.safe
