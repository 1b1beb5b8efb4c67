use Rattle.std.proofs.Common.{refl}
use Rattle.chip_warnings.specs.Reach.{flow_after}
use Rattle.chip_warnings.proofs.flow.Flow.start.Goals as goal

pub returns : goal.returns
unfolding flow_after
returns c jumped = refl
